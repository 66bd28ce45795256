use Rattle.std.proofs.Common.{◌∙◌, ◌≡◌, ◌<◌, ◌≤◌, ◌↔◌, ℕ, List, length, get_or, map, sym, ap, refl, subst, arith}
use Rattle.std.specs.List.{Contains}
use Rattle.std.specs.List.Sorted.{IsStrictlyIncreasing}
use Rattle.std.proofs.lemmas.Bool.{false≢true}
use Rattle.std.proofs.lemmas.List.{get_or_default}
use Rattle.std.proofs.lemmas.List.Elements.{Contains-get_or}
use Rattle.druid_base.proofs.MemberLemmas.{Contains-map, Contains-map_back}
use Rattle.druid_timeline_members.proofs.PairLemmas.{map-zip, rising-once}
use Rattle.druid_timeline_members.specs.Slots.{Replica}
use Rattle.druid_timeline_members.proofs.replicas.Replicas.is_only.Goals as goal

-- each of the pairs is of the node where each of the nodes is it
all_of : (nodes : List ℕ) (ps : List Replica) (n : ℕ) → nodes ≡ map (λ (r : Replica). r.0) ps → ((k : ℕ) → Contains nodes k → k ≡ n) ↔ ((x : Replica) → Contains ps x → x.0 ≡ n)
all_of nodes ps n e = (
  λ h x there. h x.0 (subst (λ (ks : List ℕ). Contains ks x.0) (sym e) (Contains-map_back (λ (r : Replica). r.0) ps x there)),
  λ h k there. let x = Contains-map (λ (r : Replica). r.0) ps k (subst (λ (ks : List ℕ). Contains ks k) e there) in sym x.2 ∙ h x.0 x.1,
)

each_at : (nodes : List ℕ) (i n : ℕ) → length nodes ≤ i → ((k : ℕ) → k < i → get_or nodes k 0 ≡ n) → (k : ℕ) → Contains nodes k → k ≡ n
each_at nodes i n done h k (j, l, e) = sym e ∙ get_or_default nodes j k 0 l ∙ h j (omega arith)

pub returns-then-other-node-clause-value : goal.returns-then-other-node-clause-value
returns-then-other-node-clause-value c =
    let e = c.deref-other-items.ensures.value ∙ (sym (map-zip _ _ c.self.invariant.0) ∙ ap (map (λ (r : Replica). r.0)) c.self.view_is) in
    (λ f. absurd (false≢true f), λ all. absurd (c.if-other-node.true ((all_of c.deref-other-items.result.now c.args.self.now c.args.node e).1 all _ (Contains-get_or c.deref-other-items.result.now c.loop-other.other-index 0 c.loop-other-test.true))))

pub returns-clause-value : goal.returns-clause-value
returns-clause-value c =
    let e = c.deref-other-items.ensures.value ∙ (sym (map-zip _ _ c.self.invariant.0) ∙ ap (map (λ (r : Replica). r.0)) c.self.view_is) in
    (λ _. (all_of c.deref-other-items.result.now c.args.self.now c.args.node e).0 (each_at c.deref-other-items.result.now c.loop-other.other-index c.args.node c.loop-other-test.false c.loop-other.invariant), λ _. refl)

pub returns-then-other-node-clause-once : goal.returns-then-other-node-clause-once
returns-then-other-node-clause-once c =
    rising-once c.args.self.now
    (subst IsStrictlyIncreasing (sym (map-zip _ _ c.self.invariant.0) ∙ ap (map (λ (r : Replica). r.0)) c.self.view_is) c.self.invariant.1)

pub returns-clause-once : goal.returns-clause-once
returns-clause-once c =
    rising-once c.args.self.now
    (subst IsStrictlyIncreasing (sym (map-zip _ _ c.self.invariant.0) ∙ ap (map (λ (r : Replica). r.0)) c.self.view_is) c.self.invariant.1)
