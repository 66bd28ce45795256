-- The orders of marks and of descriptors are orders: only proofs use this.
use Rattle.std.proofs.Common.{◌≡◌, Bool, false, true, Some, refl}
use Rattle.std.specs.Bool.{beq}
use Rattle.std.specs.Ordering.{is_eq, bool_cmp}
use Rattle.std.specs.Cmp.{IsTotalOrder, IsPartialOrder, IsEquivalence, IsPartialEquivalence, partial_equiv_from_equiv, partial_order_from_agreeing_total, both_tied, first_so, second_so, unsigned_Decides, unsigned_ties, nat_eq_equiv, bool_cmp_total, bool_eq_equiv, booleans_Decides}
use Rattle.std.proofs.lemmas.Cmp.{then_total, on_total, nat_cmp_total, and_equiv, on_equiv}
use Rattle.druid_segment_id.specs.IdentifierLaws.{identifier_cmp-total, identifier_cmp-ties, same_identifier-equiv, same_identifier-true}
use Rattle.druid_segment_descriptor.specs.Mark.{Point, same_mark, mark_cmp}
use Rattle.druid_segment_descriptor.specs.Described.{Described, same_described, described_cmp}

-- ---- marks

pub same_mark-equiv : IsEquivalence same_mark
same_mark-equiv = and_equiv (on_equiv (λ (m : Point). m.incarnation) nat_eq_equiv) (on_equiv (λ (m : Point). m.count) nat_eq_equiv)

pub same_mark-per : IsPartialEquivalence same_mark
same_mark-per = partial_equiv_from_equiv same_mark-equiv

pub mark_cmp-total : IsTotalOrder mark_cmp
mark_cmp-total = then_total (on_total (λ (m : Point). m.incarnation) nat_cmp_total) (on_total (λ (m : Point). m.count) nat_cmp_total)

pub mark_cmp-ties : (a b : Point) → same_mark a b ≡ is_eq (mark_cmp a b)
mark_cmp-ties a b = both_tied _ _ _ _ (unsigned_ties a.incarnation b.incarnation) (unsigned_ties a.count b.count)

pub mark_cmp-po : IsPartialOrder same_mark (λ a b. Some (mark_cmp a b))
mark_cmp-po = partial_order_from_agreeing_total mark_cmp mark_cmp-total (λ x y. refl) mark_cmp-ties

-- ---- descriptors

booleans_ties : (x y : Bool) → beq x y ≡ is_eq (bool_cmp x y)
booleans_ties false false = refl
booleans_ties false true = refl
booleans_ties true false = refl
booleans_ties true true = refl

pub same_described-equiv : IsEquivalence same_described
same_described-equiv =
    and_equiv (and_equiv (and_equiv (on_equiv (λ (d : Described). d.id) same_identifier-equiv) (on_equiv (λ (d : Described). d.core) nat_eq_equiv))
    (on_equiv (λ (d : Described). d.size) nat_eq_equiv)) (on_equiv (λ (d : Described). d.tombstone) bool_eq_equiv)

pub same_described-per : IsPartialEquivalence same_described
same_described-per = partial_equiv_from_equiv same_described-equiv

pub described_cmp-total : IsTotalOrder described_cmp
described_cmp-total =
    then_total (then_total (then_total (on_total (λ (d : Described). d.id) identifier_cmp-total) (on_total (λ (d : Described). d.core) nat_cmp_total))
    (on_total (λ (d : Described). d.size) nat_cmp_total)) (on_total (λ (d : Described). d.tombstone) bool_cmp_total)

pub described_cmp-ties : (a b : Described) → same_described a b ≡ is_eq (described_cmp a b)
described_cmp-ties a b =
    both_tied _ _ _ _ (both_tied _ _ _ _ (both_tied _ _ _ _ (identifier_cmp-ties a.id b.id) (unsigned_ties a.core b.core)) (unsigned_ties a.size b.size))
    (booleans_ties a.tombstone b.tombstone)

pub described_cmp-po : IsPartialOrder same_described (λ a b. Some (described_cmp a b))
described_cmp-po = partial_order_from_agreeing_total described_cmp described_cmp-total (λ x y. refl) described_cmp-ties

described_same : (a b : Described) → a.id ≡ b.id → a.core ≡ b.core → a.size ≡ b.size → a.tombstone ≡ b.tombstone → a ≡ b
described_same a b id core size tombstone i =
    record { id = id i; core = core i; size = size i; tombstone = tombstone i }

-- the test tells the same
pub same_described-true : (a b : Described) → same_described a b ≡ true → a ≡ b
same_described-true a b e =
    let sized = first_so _ _ e in
    let front = first_so _ _ sized in
    described_same a b (same_identifier-true a.id b.id (first_so _ _ front))
    ((unsigned_Decides a.core b.core).0 (second_so _ _ front)) ((unsigned_Decides a.size b.size).0 (second_so _ _ sized))
    ((booleans_Decides a.tombstone b.tombstone).0 (second_so _ _ e))
