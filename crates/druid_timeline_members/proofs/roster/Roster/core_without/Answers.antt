use Rattle.std.proofs.Common.{List, sym, subst}
use Rattle.std.specs.List.{Contains}
use Rattle.druid_timeline_members.specs.Slots.{Replica}
use Rattle.druid_timeline_members.proofs.roster.Roster.core_without.Goals as goal

pub returns-clause-most : goal.returns-clause-most
returns-clause-most c r there other =
    c.core_without.ensures.most r (subst (λ (rs : List Replica). Contains rs r) (sym c.self.view_is) there) other
