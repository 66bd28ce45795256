use Rattle.std.proofs.Common.{◌↔◌, ℕ, List, sym, subst}
use Rattle.std.specs.List.{Contains}
use Rattle.druid_timeline_members.specs.Slots.{Replica, Serves}
use Rattle.druid_timeline_members.proofs.roster.Roster.serving.Goals as goal

pub returns-clause-nodes : goal.returns-clause-nodes
returns-clause-nodes c n =
    subst (λ (ns : List ℕ). Contains ns n ↔ Serves c.args.self.now n) (sym c.as_slice.ensures.value)
    (subst (λ (rs : List Replica). Contains c.self.inside.serving.items n ↔ Serves rs n) c.self.view_is (c.self.invariant.1 n))
