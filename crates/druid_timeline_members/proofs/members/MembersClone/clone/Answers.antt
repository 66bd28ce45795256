use Rattle.std.proofs.Common.{◌≡◌, ◌∙◌, ◌↔◌, ℕ, is_some, sym, ap, subst}
use Rattle.std.specs.Bool.{IsTrue}
use Rattle.std.specs.BTreeMap as tree
use Rattle.std.specs.Map.{lookup}
use Rattle.std.specs.Ordering.{nat_cmp}
use Rattle.druid_timeline_members.specs.Members.{HasMember, core_count}
use Rattle.druid_timeline_members.specs.Slots.{SlotMap, members_in}
use Rattle.druid_timeline_members.proofs.CountLemmas.{Entries, kept_below-equal}
use Rattle.druid_timeline_members.proofs.members.MembersClone.clone.Goals as goal

-- entries that are the same are found at the same keys
same_gets : (m n : SlotMap) → n.entries ≡ m.entries → (q : ℕ) → tree.get nat_cmp n q ≡ tree.get nat_cmp m q
same_gets m n e q = ap (lookup (tree.is_at (nat_cmp q))) e

pub invariant_of-result : goal.invariant_of-result
invariant_of-result c =
    let e = c.in_ok-copy_of.ensures in
    let gets = same_gets c.self.inside.slots c.in_ok-copy_of.field-0 e in (
      c.self.invariant.0 ∙ ap (λ (es : Entries). core_count (members_in es)) (sym e),
      subst (λ (es : Entries). IsTrue c.self.inside.has_member ↔ HasMember (members_in es)) (sym e) c.self.invariant.1,
      λ p s found. c.self.invariant.2 p s (sym (gets p) ∙ found),
      c.self.invariant.3 ∙ sym (kept_below-equal c.self.inside.slots c.in_ok-copy_of.field-0 c.self.inside.core (λ p l. ap is_some (gets p))),
    )

pub returns : goal.returns
returns c = record { cases = ap members_in c.in_ok-copy_of.ensures ∙ c.self.view_is }
