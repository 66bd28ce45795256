-- Numbers made of codes are in the order of the values that the codes stand for.
use Rattle.std.proofs.Common.{◌≡◌, ◌∙◌, ℕ, ◌+◌, ◌*◌, ◌<◌, List, [], ◌∷◌, ◌++◌, length, map, Option, refl, sym, ap, arith}
use Rattle.std.specs.Prelude.{All}
use Rattle.std.proofs.lemmas.List.Elements.{All-nil, All-cons}
use Rattle.std.specs.Ordering.{nat_cmp, ordering_then}
use Rattle.std.specs.declared.cmp.Ordering.{Ordering}
use Rattle.std.specs.declared.cmp.Ordering.TheVariants.{Less, Equal, Greater}
use Rattle.std.specs.Cmp.{nat_cmp_is}
use Rattle.std.specs.Cmp.Lexicographic.{slice_cmp}
use Rattle.std.proofs.lemmas.Cmp.{ranked, by_ranked}
use Rattle.druid_base.proofs.OrderLemmas.{ordering_then-assoc, nat_cmp-lt, nat_cmp-gt}
use Rattle.druid_segment_rows.specs.Segment.{Segment, row_at}
use Rattle.druid_partial.specs.Groups.{value_cmp}
use Rattle.druid_partial_scan.specs.Places.{at_place}
use Rattle.druid_partial_scan.specs.Cells.{Column, code_at, HasCode, cell_from, IsColumn, AreColumns}
use Rattle.druid_partial_scan.proofs.CellLemmas.{times_rises, one_place}

pub equal_is : (x y : ℕ) → x ≡ y → nat_cmp x y ≡ Equal
equal_is x y h = sym (nat_cmp_is x y Equal h)

first_less : (m n s a b : ℕ) → a < s → m < n → m * s + a < n * s + b
first_less m n s a b p h =
    let room = one_place m s a p in
    let up = times_rises (m + 1) n s (omega (arith, h)) in
    omega (arith, room, up)

same_first : (m s a b : ℕ) → nat_cmp (m * s + a) (m * s + b) ≡ nat_cmp a b
same_first m s a b =
    by_ranked (a < b) (a ≡ b) (b < a) (nat_cmp a b) (ranked a b (nat_cmp a b) refl)
    (λ o h. nat_cmp-lt (m * s + a) (m * s + b) (omega (arith, h)) ∙ sym o)
    (λ o h. equal_is (m * s + a) (m * s + b) (ap (λ k. m * s + k) h) ∙ sym o)
    (λ o h. nat_cmp-gt (m * s + a) (m * s + b) (omega (arith, h)) ∙ sym o)

-- the first digit counts most
pub radix : (m n s a b : ℕ) → a < s → b < s → nat_cmp (m * s + a) (n * s + b) ≡ ordering_then (nat_cmp m n) (nat_cmp a b)
radix m n s a b p q =
    by_ranked (m < n) (m ≡ n) (n < m) (nat_cmp m n) (ranked m n (nat_cmp m n) refl)
    (λ o h. nat_cmp-lt (m * s + a) (n * s + b) (first_less m n s a b p h) ∙ ap (λ r. ordering_then r (nat_cmp a b)) (sym o))
    (λ o h. ap (λ k. nat_cmp (m * s + a) (k * s + b)) (sym h) ∙ same_first m s a b ∙ ap (λ r. ordering_then r (nat_cmp a b)) (sym o))
    (λ o h. nat_cmp-gt (m * s + a) (n * s + b) (first_less n m s b a q h) ∙ ap (λ r. ordering_then r (nat_cmp a b)) (sym o))

pub then_nothing : (p : Ordering) → p ≡ ordering_then p Equal
then_nothing Less = refl
then_nothing Equal = refl
then_nothing Greater = refl

-- the order of cells is that of the values
pub cells_order : (segment : Segment) (places : List (Option ℕ)) (columns : List Column) (a b m n : ℕ) → AreColumns segment places columns → a < length segment.rows → b < length segment.rows → nat_cmp (cell_from columns a m) (cell_from columns b n) ≡ ordering_then (nat_cmp m n) (slice_cmp value_cmp (map (at_place (row_at segment a).dimensions) places) (map (at_place (row_at segment b).dimensions) places))
cells_order segment [] [] a b m n are p q = then_nothing (nat_cmp m n)
cells_order segment [] (c ∷ cs) a b m n are p q = absurd are
cells_order segment (place ∷ ps) [] a b m n are p q = absurd are
cells_order segment (place ∷ ps) (c ∷ cs) a b m n are p q =
    let rest = slice_cmp value_cmp (map (at_place (row_at segment a).dimensions) ps) (map (at_place (row_at segment b).dimensions) ps) in
    cells_order segment ps cs a b (m * c.size + code_at c a) (n * c.size + code_at c b) are.1 p q
    ∙ ap (λ o. ordering_then o rest) (radix m n c.size (code_at c a) (code_at c b) (are.0.has a p).below (are.0.has b q).below)
    ∙ ordering_then-assoc (nat_cmp m n) (nat_cmp (code_at c a) (code_at c b)) rest
    ∙ ap (λ o. ordering_then (nat_cmp m n) (ordering_then o rest)) (sym (are.0.order a b p q))

-- one column more
pub columns_more : (segment : Segment) (places : List (Option ℕ)) (columns : List Column) (p : Option ℕ) (c : Column) → AreColumns segment places columns → IsColumn segment p c → AreColumns segment (places ++ p ∷ []) (columns ++ c ∷ [])
columns_more segment [] [] p c are one = (one, tt)
columns_more segment [] (d ∷ ds) p c are one = absurd are
columns_more segment (q ∷ qs) [] p c are one = absurd are
columns_more segment (q ∷ qs) (d ∷ ds) p c are one = (are.0, columns_more segment qs ds p c are.1 one)

-- each row has its codes
pub columns_have : (segment : Segment) (places : List (Option ℕ)) (columns : List Column) (row : ℕ) → AreColumns segment places columns → row < length segment.rows → All (HasCode row) columns
columns_have segment [] [] row are p = All-nil (HasCode row)
columns_have segment [] (c ∷ cs) row are p = absurd are
columns_have segment (place ∷ ps) [] row are p = absurd are
columns_have segment (place ∷ ps) (c ∷ cs) row are p = All-cons (HasCode row) c cs (are.0.has row p) (columns_have segment ps cs row are.1 p)
