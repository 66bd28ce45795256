-- The order of segment slices: by it a set of them is searched.
use Rattle.std.proofs.Common.{◌≡◌, true, Some, refl}
use Rattle.std.specs.Ordering.{nat_cmp, ordering_then, is_eq}
use Rattle.std.specs.declared.cmp.Ordering.{Ordering}
use Rattle.std.specs.Cmp.{IsTotalOrder, IsPartialOrder, partial_order_from_agreeing_total, both_tied, first_so, second_so, unsigned_Decides, unsigned_ties}
use Rattle.std.proofs.lemmas.Cmp.{then_total, on_total, nat_cmp_total}
use Rattle.druid_segment_id.specs.Identifier.{identifier_cmp}
use Rattle.druid_segment_id.specs.IdentifierLaws.{identifier_cmp-total, identifier_cmp-ties, same_identifier-true}
use Rattle.druid_query.specs.Asked.{Asked}
use Rattle.druid_query.specs.AskedOrder.{same_asked}

-- by the identifier of the segment, and then by the piece
abbrev pub piece_cmp : Asked → Asked → Ordering
piece_cmp a b = ordering_then (ordering_then (identifier_cmp a.0 b.0) (nat_cmp a.1.start b.1.start)) (nat_cmp a.1.end b.1.end)

pub piece_cmp-total : IsTotalOrder piece_cmp
piece_cmp-total =
    then_total (then_total (on_total (λ (a : Asked). a.0) identifier_cmp-total) (on_total (λ (a : Asked). a.1.start) nat_cmp_total))
    (on_total (λ (a : Asked). a.1.end) nat_cmp_total)

pub piece_cmp-ties : (a b : Asked) → same_asked a b ≡ is_eq (piece_cmp a b)
piece_cmp-ties a b =
    both_tied _ _ _ _ (both_tied _ _ _ _ (identifier_cmp-ties a.0 b.0) (unsigned_ties a.1.start b.1.start)) (unsigned_ties a.1.end b.1.end)

pub piece_cmp-po : IsPartialOrder same_asked (λ a b. Some (piece_cmp a b))
piece_cmp-po = partial_order_from_agreeing_total piece_cmp piece_cmp-total (λ x y. refl) piece_cmp-ties

asked_same : (a b : Asked) → a.0 ≡ b.0 → a.1.start ≡ b.1.start → a.1.end ≡ b.1.end → a ≡ b
asked_same a b segment start end i = (segment i, record { start = start i; end = end i })

-- the test of equal pieces tells the same
pub same_asked-true : (a b : Asked) → same_asked a b ≡ true → a ≡ b
same_asked-true a b e =
    let front = first_so _ _ e in
    asked_same a b (same_identifier-true a.0 b.0 (first_so _ _ front)) ((unsigned_Decides a.1.start b.1.start).0 (second_so _ _ front))
    ((unsigned_Decides a.1.end b.1.end).0 (second_so _ _ e))
