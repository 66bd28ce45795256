use Rattle.std.proofs.Common.{◌∙◌, List, sym, subst}
use Rattle.std.specs.List.{Contains, zip}
use Rattle.druid_timeline_members.specs.Slots.{Replica}
use Rattle.druid_timeline_members.proofs.replicas.Replicas.core_without.Goals as goal

pub returns-clause-most : goal.returns-clause-most
returns-clause-most c r there other =
    c.core_of_others.ensures.most r
    (subst (λ (ps : List Replica). Contains ps r) (sym c.self.view_is ∙ (λ i. zip (sym c.deref.ensures.value i) (sym c.deref-2.ensures.value i))) there) other
