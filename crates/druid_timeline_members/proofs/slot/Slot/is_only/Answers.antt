use Rattle.std.proofs.Common.{◌≡◌, ◌∙◌, ◌↔◌, List, [], ◌∷◌, sym, ap, refl, subst, eq-eqb}
use borrow.Author.Tests.{eqb-true}
use Rattle.std.specs.Bool.{IsTrue}
use Rattle.std.specs.List.{Contains}
use Rattle.druid_timeline_members.specs.Slots.{Replica, EachOnce}
use Rattle.druid_timeline_members.specs.Holders.{replicas_of}
use Rattle.druid_timeline_members.proofs.OneLemmas.{Contains-one, one-Contains}
use Rattle.druid_timeline_members.proofs.slot.Slot.is_only.Goals as goal

pub returns-in-One-clause-value : goal.returns-in-One-clause-value
returns-in-One-clause-value c =
    let one : Replica = (c.in-One.other, c.in-One.field-1) in
    let value : one ∷ [] ≡ c.args.self.now = sym (ap replicas_of c.in-One.is) ∙ c.self.view_is in (
      λ same x there. sym (ap (λ (r : Replica). r.0) (Contains-one one x (subst (λ (rs : List Replica). Contains rs x) (sym value) there))) ∙ eqb-true _ _ same,
      λ all. eq-eqb _ _ (all one (subst (λ (rs : List Replica). Contains rs one) value (one-Contains one one refl))),
    )

pub returns-in-Several : goal.returns-in-Several
returns-in-Several c =
    let value : c.deref.result.now ≡ c.args.self.now = c.deref.ensures ∙ sym (ap replicas_of c.in-Several.is) ∙ c.self.view_is in record {
      value = subst (λ (rs : List Replica). IsTrue c.is_only.result ↔ ((x : Replica) → Contains rs x → x.0 ≡ c.args.node)) value c.is_only.ensures.value;
      once = subst EachOnce value c.is_only.ensures.once;
    }
