use Rattle.std.proofs.Common.{◌≡◌, ◌↔◌, ◌⊎◌, ℕ, List, subst}
use Rattle.std.specs.List.{Contains}
use Rattle.druid_timeline_members.specs.Slots.{Replica, Serves}
use Rattle.druid_timeline_members.proofs.PairLemmas.{Serves-removes}
use Rattle.druid_timeline_members.proofs.roster.Roster.remove.Goals as goal

-- what is taken out of both is out of both
out_of_both : (n node : ℕ) (left old : List ℕ) (new was : List Replica) → Contains left n ↔ (Contains old n × (n ≡ node → ⊥)) → Contains old n ↔ Serves was n → Serves new n ↔ (Serves was n × (n ≡ node → ⊥)) → Contains left n ↔ Serves new n
out_of_both n node left old new was r v s = (
  λ there. let kept = r.0 there in s.1 (v.0 kept.0, kept.1),
  λ does. let kept = s.0 does in r.1 (v.1 kept.0, kept.1),
)

pub invariant_of-self : goal.invariant_of-self
invariant_of-self c = (
  c.remove_node.ensures.rising,
  λ n. out_of_both n c.args.node c.remove_node.new.nodes.items c.self.inside.serving.items c.remove.new.self c.self.inside.replicas (c.remove_node.ensures.all n) (c.self.invariant.1 n)
      (Serves-removes c.self.inside.replicas c.remove.new.self c.args.node c.remove.ensures.removed n),
)

pub returns-clause-removed : goal.returns-clause-removed
returns-clause-removed c x =
    subst (λ (rs : List Replica). Contains c.remove.new.self x ↔ (Contains rs x × (x.0 ≡ c.args.node → ⊥))) c.self.view_is (c.remove.ensures.removed x)

pub returns-clause-one : goal.returns-clause-one
returns-clause-one c removed =
    let one = c.remove.ensures.one removed in
    (one.0, λ x. subst (λ (rs : List Replica). Contains rs x ↔ ((x ≡ (c.args.node, one.0)) ⊎ Contains c.remove.new.self x)) c.self.view_is (one.1 x))
