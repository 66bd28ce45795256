-- The order in which pieces of segments are searched for two that overlap: only proofs use this.
use Rattle.std.proofs.Common.{◌≡◌, false, Some, refl}
use Rattle.std.specs.Prelude.{Bool, ◌&&◌, ◌==◌}
use Rattle.std.specs.declared.cmp.Ordering.{Ordering}
use Rattle.std.specs.Ordering.{nat_cmp, ordering_then, is_eq}
use Rattle.std.specs.Cmp.{IsTotalOrder, IsPartialOrder, IsEquivalence, IsPartialEquivalence, partial_equiv_from_equiv, partial_order_from_agreeing_total, both_tied, unsigned_ties, nat_eq_equiv}
use Rattle.std.proofs.lemmas.Cmp.{then_total, on_total, nat_cmp_total, and_equiv, on_equiv}
use Rattle.druid_segment_id.specs.Identifier.{parts_cmp, same_identifier}
use Rattle.druid_segment_id.specs.IdentifierLaws.{parts_cmp-total, same_parts, same_identifier-equiv}
use Rattle.druid_query.specs.Asked.{Asked, do_overlap}

-- by the parts of the segment, and then by the piece
abbrev pub asked_cmp : Asked → Asked → Ordering
asked_cmp a b = ordering_then (ordering_then (parts_cmp a.0 b.0) (nat_cmp a.1.start b.1.start)) (nat_cmp a.1.end b.1.end)

abbrev pub same_asked : Asked → Asked → Bool
same_asked a b = same_identifier a.0 b.0 && a.1.start == b.1.start && a.1.end == b.1.end

pub asked_cmp-total : IsTotalOrder asked_cmp
asked_cmp-total =
    then_total (then_total (on_total (λ (a : Asked). a.0) parts_cmp-total) (on_total (λ (a : Asked). a.1.start) nat_cmp_total))
    (on_total (λ (a : Asked). a.1.end) nat_cmp_total)

pub same_asked-equiv : IsEquivalence same_asked
same_asked-equiv =
    and_equiv (and_equiv (on_equiv (λ (a : Asked). a.0) same_identifier-equiv) (on_equiv (λ (a : Asked). a.1.start) nat_eq_equiv))
    (on_equiv (λ (a : Asked). a.1.end) nat_eq_equiv)

pub same_asked-per : IsPartialEquivalence same_asked
same_asked-per = partial_equiv_from_equiv same_asked-equiv

pub asked_cmp-ties : (a b : Asked) → same_asked a b ≡ is_eq (asked_cmp a b)
asked_cmp-ties a b =
    both_tied _ _ _ _ (both_tied _ _ _ _ (same_parts a.0 b.0) (unsigned_ties a.1.start b.1.start)) (unsigned_ties a.1.end b.1.end)

pub asked_cmp-po : IsPartialOrder same_asked (λ a b. Some (asked_cmp a b))
asked_cmp-po = partial_order_from_agreeing_total asked_cmp asked_cmp-total (λ x y. refl) asked_cmp-ties

-- side by side in that order
abbrev pub AreApart : Asked → Asked → Type 0
AreApart a b = do_overlap a b ≡ false
