use Rattle.std.proofs.Common.{◌∙◌, ◌≡◌, ◌↔◌, ℕ, List, [], map, Option, unwrap_or, sym, ap, subst}
use Rattle.std.specs.List.{Contains}
use Rattle.druid_timeline_members.specs.Members.{Member, HoldsPlace, ServedOnce}
use Rattle.druid_timeline_members.proofs.SlotLemmas.{HoldsPlace-slot, ServedOnce-slot, ServedOnce-none}
use Rattle.druid_timeline_members.specs.Slots.{Replica}
use Rattle.druid_timeline_members.proofs.members.Members.replicas.Goals as goal

-- what holds of the members in the slots holds of the value, and what the slot gives is what the map has
borrowed : (members value : List Member) (nodes slot : List ℕ) (p n : ℕ) → members ≡ value → nodes ≡ slot → HoldsPlace members p n ↔ Contains slot n → Contains nodes n ↔ HoldsPlace value p n
borrowed members value nodes slot p n e f h = (
  λ there. subst (λ (ms : List Member). HoldsPlace ms p n) e (h.1 (subst (λ (xs : List ℕ). Contains xs n) f there)),
  λ held. subst (λ (xs : List ℕ). Contains xs n) (sym f) (h.0 (subst (λ (ms : List Member). HoldsPlace ms p n) (sym e) held)),
)

pub returns-in-Some-clause-nodes : goal.returns-in-Some-clause-nodes
returns-in-Some-clause-nodes c n =
    borrowed _ c.args.self.now c.nodes.result.now _ c.args.partition n c.self.view_is (c.nodes.ensures.value ∙ ap (λ (o : Option (List Replica)). map (λ (r : Replica). r.0) (unwrap_or o [])) c.in-Some.ensures.value) (HoldsPlace-slot c.self.inside.slots c.args.partition n c.len.ensures.ordered)

pub returns-in-None-clause-nodes : goal.returns-in-None-clause-nodes
returns-in-None-clause-nodes c n =
    borrowed _ c.args.self.now [] _ c.args.partition n c.self.view_is (ap (λ (o : Option (List Replica)). map (λ (r : Replica). r.0) (unwrap_or o [])) c.in-None.ensures.value) (HoldsPlace-slot c.self.inside.slots c.args.partition n c.len.ensures.ordered)

pub returns-in-Some-clause-once : goal.returns-in-Some-clause-once
returns-in-Some-clause-once c =
    subst (λ (ms : List Member). ServedOnce ms c.args.partition) c.self.view_is
    (ServedOnce-slot c.self.inside.slots c.args.partition c.len.ensures.ordered
    (subst (λ (s : List Replica). (x y : Replica) → Contains s x → Contains s y → x.0 ≡ y.0 → x ≡ y) (ap (λ (o : Option (List Replica)). unwrap_or o []) c.in-Some.ensures.value) c.nodes.ensures.once))

pub returns-in-None-clause-once : goal.returns-in-None-clause-once
returns-in-None-clause-once c =
    subst (λ (ms : List Member). ServedOnce ms c.args.partition) c.self.view_is
    (ServedOnce-none c.self.inside.slots c.args.partition c.len.ensures.ordered (sym (ap (λ (o : Option (List Replica)). unwrap_or o []) c.in-None.ensures.value)))
