use Rattle.std.proofs.Common.{◌≡◌, ◌∙◌, List, [], ◌∷◌, sym, ap, refl, subst, inr}
use Rattle.std.specs.List.{Contains}
use Rattle.druid_timeline_members.specs.Slots.{Statement, Replica}
use Rattle.druid_timeline_members.specs.Holders.{replicas_of}
use Rattle.druid_timeline_members.proofs.OneLemmas.{one-Contains}
use Rattle.druid_timeline_members.proofs.slot.Slot.core_without.Goals as goal

pub returns-else-other-node-clause-some : goal.returns-else-other-node-clause-some
returns-else-other-node-clause-some c =
    let one : Replica = (c.in-One.other, c.in-One.stated) in
    let value : one ∷ [] ≡ c.args.self.now = sym (ap replicas_of c.in-One.is) ∙ c.self.view_is in
    inr (one, subst (λ (rs : List Replica). Contains rs one) value (one-Contains one one refl), c.if-other-node.false, ap (λ (s : Statement). s.core) (sym c.stated.view_is))

pub returns-in-Several-clause-most : goal.returns-in-Several-clause-most
returns-in-Several-clause-most c r there other =
    let value : c.deref.result.now ≡ c.args.self.now = c.deref.ensures ∙ sym (ap replicas_of c.in-Several.is) ∙ c.self.view_is in
    c.core_without.ensures.most r (subst (λ (rs : List Replica). Contains rs r) (sym value) there) other
