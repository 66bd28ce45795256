-- Codes of a dictionary are in the order of their values, so equal codes are equal values.
use Rattle.std.proofs.Common.{◌≡◌, ◌∙◌, ℕ, zero, suc, ◌+◌, ◌<◌, ◌≤◌, List, [], ◌∷◌, length, get_or, Some, None, refl, sym, ap, subst, arith}
use Rattle.std.specs.Prelude.{◌==◌, slice_get, slice_index_or}
use Rattle.std.specs.List.Sorted.{IsStrictlySortedBy}
use Rattle.std.specs.Ordering.{nat_cmp, is_eq, ordering_reverse}
use Rattle.std.specs.declared.cmp.Ordering.TheVariants.{Less, Equal, Greater}
use Rattle.std.specs.Cmp.{unsigned_ties}
use Rattle.std.specs.Cmp.Lexicographic.{slice_cmp}
use Rattle.std.proofs.lemmas.Cmp.{nat_list_cmp_total, tied_itself, ranked, by_ranked}
use Rattle.std.proofs.lemmas.Map.Keys.{Less-from_sorted}
use Rattle.std.proofs.lemmas.Map.Lookups.{exact_bytes}
use Rattle.std.proofs.lemmas.Option.{slice_get-get_or}
use Rattle.std.proofs.lemmas.List.{get_or-map, length-map}
use Rattle.std.proofs.lemmas.List.Elements.{All-get_or}
use Rattle.druid_base.proofs.OrderLemmas.{nat_cmp-lt, nat_cmp-gt}
use Rattle.druid_filter.specs.Filters.{same_value}
use Rattle.druid_segment_rows.specs.Rows.{Row, no_row}
use Rattle.druid_segment_rows.specs.Segment.{Segment, row_at}
use Rattle.druid_segment_rows.specs.Columns.{column, value_at, IsDictionary, AreCodes}
use Rattle.druid_partial.specs.Groups.{value_cmp}
use Rattle.druid_partial_scan.specs.Places.{at_place}
use Rattle.druid_partial_scan.specs.Cells.{Column, IsColumn}
use Rattle.druid_partial_scan.specs.CodeFilters.{IsCodeOf}
use Rattle.druid_partial_scan.proofs.CodeFilterLemmas.{value_tie}
use Rattle.druid_partial_scan.proofs.RadixLemmas.{equal_is}

texts_rank : (ts : List (List ℕ)) (i j : ℕ) (d : List ℕ) → IsStrictlySortedBy (slice_cmp nat_cmp) ts → i < length ts → j < length ts → slice_cmp nat_cmp (get_or ts i d) (get_or ts j d) ≡ nat_cmp i j
texts_rank ts i j d s p q =
    by_ranked (i < j) (i ≡ j) (j < i) (nat_cmp i j) (ranked i j (nat_cmp i j) refl)
    (λ o h. Less-from_sorted (slice_cmp nat_cmp) ts i j d s h q ∙ sym o)
    (λ o h. ap (λ k. slice_cmp nat_cmp (get_or ts i d) (get_or ts k d)) (sym h) ∙ tied_itself nat_list_cmp_total (get_or ts i d) ∙ sym o)
    (λ o h. nat_list_cmp_total.antisymm (get_or ts i d) (get_or ts j d) ∙ ap ordering_reverse (Less-from_sorted (slice_cmp nat_cmp) ts j i d s h p) ∙ sym o)

some_at : (ts : List (List ℕ)) (k : ℕ) → k < length ts → slice_get ts k ≡ Some (get_or ts k [])
some_at ts k h = slice_get-get_or ts k [] h

pub next_rank : (i j : ℕ) → nat_cmp i j ≡ nat_cmp (suc i) (suc j)
next_rank i j =
    by_ranked (i < j) (i ≡ j) (j < i) (nat_cmp i j) (ranked i j (nat_cmp i j) refl)
    (λ o h. o ∙ sym (nat_cmp-lt (suc i) (suc j) (omega (arith, h))))
    (λ o h. o ∙ sym (equal_is (suc i) (suc j) (omega (arith, h))))
    (λ o h. o ∙ sym (nat_cmp-gt (suc i) (suc j) (omega (arith, h))))

-- values are in the order of their codes
pub value_rank : (ts : List (List ℕ)) (a b : ℕ) → IsStrictlySortedBy (slice_cmp nat_cmp) ts → a ≤ length ts → b ≤ length ts → value_cmp (value_at ts a) (value_at ts b) ≡ nat_cmp a b
value_rank ts zero zero s p q = refl
value_rank ts zero (suc b) s p q = ap (value_cmp None) (some_at ts b (omega (arith, q))) ∙ sym (nat_cmp-lt zero (suc b) (omega arith))
value_rank ts (suc a) zero s p q = ap (λ v. value_cmp v None) (some_at ts a (omega (arith, p))) ∙ sym (nat_cmp-gt (suc a) zero (omega arith))
value_rank ts (suc a) (suc b) s p q =
    ap (λ v. value_cmp v (value_at ts (suc b))) (some_at ts a (omega (arith, p)))
    ∙ ap (value_cmp (Some (get_or ts a []))) (some_at ts b (omega (arith, q)))
    ∙ texts_rank ts a b [] s (omega (arith, p)) (omega (arith, q)) ∙ next_rank a b

-- and are the same where these are
pub value_same_code : (ts : List (List ℕ)) (a b : ℕ) → IsStrictlySortedBy (slice_cmp nat_cmp) ts → a ≤ length ts → b ≤ length ts → same_value (value_at ts a) (value_at ts b) ≡ (a == b)
value_same_code ts a b s p q =
    sym (value_tie (value_at ts a) (value_at ts b)) ∙ ap is_eq (value_rank ts a b s p q) ∙ sym (unsigned_ties a b)

-- ---- what a search by halving finds

-- the texts before a place are below that one
abbrev pub AreBelow : List (List ℕ) → List ℕ → ℕ → Type 0
AreBelow texts x low = (k : ℕ) → k < low → slice_cmp nat_cmp (get_or texts k []) x ≡ Less

-- those from a place on are above it
abbrev pub AreAbove : List (List ℕ) → List ℕ → ℕ → Type 0
AreAbove texts x high = (k : ℕ) → high ≤ k → k < length texts → slice_cmp nat_cmp (get_or texts k []) x ≡ Greater

pub below_to : (texts : List (List ℕ)) (x : List ℕ) (k : ℕ) → IsStrictlySortedBy (slice_cmp nat_cmp) texts → k < length texts → slice_cmp nat_cmp (get_or texts k []) x ≡ Less → AreBelow texts x (k + 1)
below_to texts x k s h less m lt =
    by_ranked (m < k) (m ≡ k) (k < m) (nat_cmp m k) (ranked m k (nat_cmp m k) refl)
    (λ o l. nat_list_cmp_total.trans (get_or texts m []) (get_or texts k []) x (Less-from_sorted (slice_cmp nat_cmp) texts m k [] s l h) less)
    (λ o e. subst (λ n. slice_cmp nat_cmp (get_or texts n []) x ≡ Less) (sym e) less)
    (λ o g. absurd (omega (arith, lt, g)))

pub above_from : (texts : List (List ℕ)) (x : List ℕ) (k : ℕ) → IsStrictlySortedBy (slice_cmp nat_cmp) texts → slice_cmp nat_cmp (get_or texts k []) x ≡ Greater → AreAbove texts x k
above_from texts x k s greater m le h =
    by_ranked (k < m) (k ≡ m) (m < k) (nat_cmp k m) (ranked k m (nat_cmp k m) refl)
    (λ o l. nat_list_cmp_total.antisymm (get_or texts m []) x
    ∙ ap ordering_reverse (nat_list_cmp_total.trans x (get_or texts k []) (get_or texts m []) (nat_list_cmp_total.antisymm x (get_or texts k []) ∙ ap ordering_reverse greater) (Less-from_sorted (slice_cmp nat_cmp) texts k m [] s l h)))
    (λ o e. subst (λ n. slice_cmp nat_cmp (get_or texts n []) x ≡ Greater) e greater)
    (λ o g. absurd (omega (arith, le, g)))

-- the text that was found
pub code_found : (texts : List (List ℕ)) (x : List ℕ) (k : ℕ) → IsStrictlySortedBy (slice_cmp nat_cmp) texts → k < length texts → slice_cmp nat_cmp (get_or texts k []) x ≡ Equal → IsCodeOf texts (Some x) (Some (k + 1))
code_found texts x k s h e code p =
    let there : value_at texts (suc k) ≡ Some x = slice_get-get_or texts k [] h ∙ ap (λ t. Some t) (exact_bytes _ _ e) in
    let next : suc k ≡ k + 1 = omega arith in
    ap (same_value (value_at texts code)) (sym there)
    ∙ value_same_code texts code (suc k) s p (omega (arith, h)) ∙ ap (λ n. code == n) next

-- a text that is not there
pub code_absent : (texts : List (List ℕ)) (x : List ℕ) (low high : ℕ) → high ≤ low → AreBelow texts x low → AreAbove texts x high → IsCodeOf texts (Some x) None
code_absent texts x low high met below above zero p = refl
code_absent texts x low high met below above (suc k) p =
    let h : k < length texts = omega (arith, p) in
    ap (λ v. same_value v (Some x)) (slice_get-get_or texts k [] h) ∙ sym (value_tie (Some (get_or texts k [])) (Some x))
    ∙ by_ranked (k < low) (k ≡ low) (low < k) (nat_cmp k low) (ranked k low (nat_cmp k low) refl)
    (λ o l. ap is_eq (below k l))
    (λ o e. ap is_eq (above k (omega (arith, met, e)) h))
    (λ o g. ap is_eq (above k (omega (arith, met, g)) h))

-- ---- a dimension's codes

pub code_here : (segment : Segment) (place row : ℕ) (ts : List (List ℕ)) (codes : List ℕ) → AreCodes ts (column place segment.rows) codes → row < length segment.rows → (row < length codes) × (value_at ts (get_or codes row 0) ≡ slice_index_or (row_at segment row).dimensions place None) × (get_or codes row 0 ≤ length ts)
code_here segment place row ts codes are h =
    let wide : length codes ≡ length segment.rows = sym (length-map codes (value_at ts)) ∙ ap length are.stand ∙ length-map segment.rows (λ (r : Row). slice_index_or r.dimensions place None) in
    let inside : row < length codes = omega (arith, h, wide) in
    let value : value_at ts (get_or codes row 0) ≡ slice_index_or (row_at segment row).dimensions place None =
    sym (get_or-map (value_at ts) codes row 0 None inside) ∙ ap (λ l. get_or l row None) are.stand
    ∙ get_or-map (λ (r : Row). slice_index_or r.dimensions place None) segment.rows row no_row None h in
    (inside, value, All-get_or (λ code. code ≤ length ts) codes row 0 inside are.bounded)

pub row_code : (segment : Segment) (place row : ℕ) (ts : List (List ℕ)) (codes : List ℕ) → AreCodes ts (column place segment.rows) codes → row < length segment.rows → slice_get codes row ≡ Some (get_or codes row 0)
row_code segment place row ts codes are h = slice_get-get_or codes row 0 (code_here segment place row ts codes are h).0

pub row_value : (segment : Segment) (place row : ℕ) (ts : List (List ℕ)) (codes : List ℕ) → AreCodes ts (column place segment.rows) codes → row < length segment.rows → value_at ts (get_or codes row 0) ≡ slice_index_or (row_at segment row).dimensions place None
row_value segment place row ts codes are h = (code_here segment place row ts codes are h).1

pub row_bounded : (segment : Segment) (place row : ℕ) (ts : List (List ℕ)) (codes : List ℕ) → AreCodes ts (column place segment.rows) codes → row < length segment.rows → get_or codes row 0 ≤ length ts
row_bounded segment place row ts codes are h = (code_here segment place row ts codes are h).2

-- the column of a dimension
pub coded_column : (segment : Segment) (place size : ℕ) (ts : List (List ℕ)) (codes : List ℕ) (c : Column) → IsDictionary (column place segment.rows) ts → AreCodes ts (column place segment.rows) codes → size ≡ length ts + 1 → c ≡ record { size = size; codes = Some codes } → IsColumn segment (Some place) c
coded_column segment place size ts codes c dictionary are wide is =
    let P : Column → Type 0 = λ d. IsColumn segment (Some place) d in
    subst P (sym is) (record {
      has = λ row h. record {
        there = (code_here segment place row ts codes are h).0;
        below = let b = row_bounded segment place row ts codes are h in omega (arith, b, wide);
      };
      order = λ a b p q.
          ap (λ v. value_cmp v (at_place (row_at segment b).dimensions (Some place))) (sym (row_value segment place a ts codes are p))
          ∙ ap (value_cmp (value_at ts (get_or codes a 0))) (sym (row_value segment place b ts codes are q))
          ∙ value_rank ts (get_or codes a 0) (get_or codes b 0) dictionary.rising (row_bounded segment place a ts codes are p) (row_bounded segment place b ts codes are q);
    })
