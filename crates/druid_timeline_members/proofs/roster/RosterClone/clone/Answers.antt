use Rattle.std.proofs.Common.{◌↔◌, ℕ, List, sym, subst}
use Rattle.std.specs.List.{Contains}
use Rattle.std.specs.List.Sorted.{IsStrictlyIncreasing}
use Rattle.druid_timeline_members.specs.Slots.{Replica, Serves}
use Rattle.druid_timeline_members.proofs.roster.RosterClone.clone.Goals as goal

pub invariant_of-result : goal.invariant_of-result
invariant_of-result c =
    let nodes = c.in_ok-copy_of.ensures in (
      subst IsStrictlyIncreasing (sym nodes) c.self.invariant.0,
      λ n. subst (λ (ns : List ℕ). Contains ns n ↔ Serves c.in_ok-clone.field-0 n) (sym nodes)
          (subst (λ (rs : List Replica). Contains c.self.inside.serving.items n ↔ Serves rs n) (sym c.in_ok-clone.ensures.cases) (c.self.invariant.1 n)),
    )
