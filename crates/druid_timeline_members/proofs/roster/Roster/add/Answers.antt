use Rattle.std.proofs.Common.{◌≡◌, ◌↔◌, ◌⊎◌, ◌∙◌, ℕ, List, map, sym, subst, inl, inr}
use Rattle.std.specs.Bool.{IsTrue}
use Rattle.std.specs.List.{Contains}
use Rattle.druid_base.proofs.ClauseLemmas.{always_err}
use Rattle.std.proofs.lemmas.Bool.{false≢true}
use Rattle.druid_timeline_members.specs.Slots.{Statement, Replica, Serves}
use Rattle.druid_timeline_members.proofs.PairLemmas.{Serves-adds, Serves-there}
use Rattle.druid_timeline_members.proofs.roster.Roster.add.Goals as goal

pub invariant_of-self : goal.invariant_of-self
invariant_of-self c = (
  c.insert_node.ensures.rising,
  λ n. subst (λ (ns : List ℕ). Contains ns n ↔ Serves c.self.inside.replicas n) (sym c.in_err-insert_node.ensures.err) (c.self.invariant.1 n),
)

stated_serves : (stated args : Statement) (n node : ℕ) (now old : List ℕ) → stated ≡ args → Contains now n ↔ (((n ≡ node) × IsTrue stated.serves) ⊎ Contains old n) → Contains now n ↔ (((n ≡ node) × IsTrue args.serves) ⊎ Contains old n)
stated_serves stated args n node now old e =
    subst (λ (s : Statement). Contains now n ↔ (((n ≡ node) × IsTrue s.serves) ⊎ Contains old n)) e

-- a node that is put among those that serve is one that serves
put : (serves : Type 0) (n node : ℕ) (now old : List ℕ) (new was : List Replica) → Contains now n ↔ (((n ≡ node) × serves) ⊎ Contains old n) → Contains old n ↔ Serves was n → Serves new n ↔ (((n ≡ node) × serves) ⊎ Serves was n) → Contains now n ↔ Serves new n
put serves n node now old new was i v s = (λ there. s.1 (forth (i.0 there)), λ does. i.1 (back (s.0 does))) where
  forth : ((n ≡ node) × serves) ⊎ Contains old n → ((n ≡ node) × serves) ⊎ Serves was n
  forth (inl both) = inl both
  forth (inr before) = inr (v.0 before)

  back : ((n ≡ node) × serves) ⊎ Serves was n → ((n ≡ node) × serves) ⊎ Contains old n
  back (inl both) = inl both
  back (inr before) = inr (v.1 before)

pub invariant_of-self-in-Ok : goal.invariant_of-self-in-Ok
invariant_of-self-in-Ok c =
    let absent : Contains (map (λ (r : Replica). r.0) c.self.inside.replicas) c.args.node → ⊥ = λ there. false≢true (sym c.if-holds.false ∙ c.holds.ensures.1 there) in
    let added = c.in-Ok.ensures.added (c.in-Ok.ensures.held.1 absent) in (
      c.insert_node.ensures.rising,
      λ n. put (IsTrue c.args.stated.serves) n c.args.node c.insert_node.new.nodes.items c.self.inside.serving.items c.add.new.self c.self.inside.replicas (stated_serves _ c.args.stated n c.args.node c.insert_node.new.nodes.items c.self.inside.serving.items c.stated.view_is (c.in_ok-insert_node.ensures.all n)) (c.self.invariant.1 n)
          (Serves-adds c.self.inside.replicas c.add.new.self c.args.node c.args.stated added n),
    )

-- a node that is taken out again leaves those that serve as they were
out_again : (serves : Type 0) (n node : ℕ) (left now old : List ℕ) (was : List Replica) → Contains left n ↔ (Contains now n × (n ≡ node → ⊥)) → Contains now n ↔ (((n ≡ node) × serves) ⊎ Contains old n) → Contains old n ↔ Serves was n → (Serves was node → ⊥) → Contains left n ↔ Serves was n
out_again serves n node left now old was r i v absent = (
  λ there. let kept = r.0 there in elim (i.0 kept.0) [
    | inl both ↦ absurd (kept.1 both.0)
    | inr before ↦ v.0 before
  ],
  λ does. r.1 (i.1 (inr (v.1 does)), λ same. absent (subst (Serves was) same does)),
)

pub invariant_of-self-in-Err : goal.invariant_of-self-in-Err
invariant_of-self-in-Err c =
    let absent : Serves c.self.inside.replicas c.args.node → ⊥ = λ does. false≢true (sym c.if-holds.false ∙ c.holds.ensures.1 (Serves-there c.self.inside.replicas c.args.node does)) in (
      c.remove_node.ensures.rising,
      λ n. subst (λ (rs : List Replica). Contains c.remove_node.new.nodes.items n ↔ Serves rs n) (sym c.in-Err.ensures.err)
          (out_again (IsTrue c.args.stated.serves) n c.args.node c.remove_node.new.nodes.items c.insert_node.new.nodes.items c.self.inside.serving.items c.self.inside.replicas (c.remove_node.ensures.all n) (stated_serves _ c.args.stated n c.args.node c.insert_node.new.nodes.items c.self.inside.serving.items c.stated.view_is (c.in_ok-insert_node.ensures.all n)) (c.self.invariant.1 n) absent),
    )

pub returns-in-Ok-clause-added : goal.returns-in-Ok-clause-added
returns-in-Ok-clause-added c added x =
    subst (λ (rs : List Replica). Contains c.add.new.self x ↔ ((x ≡ (c.args.node, c.args.stated)) ⊎ Contains rs x)) c.self.view_is (c.in-Ok.ensures.added added x)

pub returns-in_err-insert_node-clause-absent : goal.returns-in_err-insert_node-clause-absent
returns-in_err-insert_node-clause-absent c =
    always_err c.from_residual.result _ (subst (λ (rs : List Replica). Contains (map (λ (r : Replica). r.0) rs) c.args.node → ⊥) c.self.view_is (λ there. false≢true (sym c.if-holds.false ∙ c.holds.ensures.1 there)))
