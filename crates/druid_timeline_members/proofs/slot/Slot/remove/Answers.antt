use Rattle.std.proofs.Common.{◌≡◌, ◌∙◌, ◌↔◌, ◌⊎◌, List, sym, ap, subst}
use Rattle.std.specs.List.{Contains}
use Rattle.druid_timeline_members.specs.Slots.{Replica}
use Rattle.druid_timeline_members.specs.Holders.{replicas_of}
use Rattle.druid_timeline_members.proofs.slot.Slot.remove.Goals as goal

pub returns-clause-removed : goal.returns-clause-removed
returns-clause-removed c x =
    let value : c.deref_mut.result.now ≡ c.args.self.now = c.deref_mut.ensures.value ∙ sym (ap replicas_of c.in-Several.is) ∙ c.self.view_is in
    subst (λ (rs : List Replica). Contains c.remove.new.self x ↔ (Contains rs x × (x.0 ≡ c.args.node → ⊥))) value (c.remove.ensures.removed x)

pub returns-clause-one : goal.returns-clause-one
returns-clause-one c removed =
    let value : c.deref_mut.result.now ≡ c.args.self.now = c.deref_mut.ensures.value ∙ sym (ap replicas_of c.in-Several.is) ∙ c.self.view_is in
    let one = c.remove.ensures.one removed in
    (one.0, λ x. subst (λ (rs : List Replica). Contains rs x ↔ ((x ≡ (c.args.node, one.0)) ⊎ Contains c.remove.new.self x)) value (one.1 x))
