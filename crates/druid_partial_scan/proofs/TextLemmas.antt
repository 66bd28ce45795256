-- Codes of a segment's texts and those of all segments.
use Rattle.std.proofs.Common.{◌≡◌, ◌∙◌, ℕ, zero, suc, ◌+◌, ◌-◌, ◌<◌, ◌≤◌, List, [], ◌∷◌, ◌++◌, length, map, take, get_or, true, false, Option, Some, None, refl, sym, ap, subst, arith, Vec, Bor, Global, option_map}
use Rattle.std.specs.Prelude.{not, ◌==◌, slice_get}
use Rattle.std.specs.Str.{bytes_eq}
use Rattle.std.specs.List.{AllByRecursion}
use Rattle.std.specs.List.Sorted.{IsStrictlySortedBy}
use Rattle.std.specs.Ordering.{nat_cmp, ordering_index}
use Rattle.std.specs.declared.cmp.Ordering.{Ordering}
use Rattle.std.specs.declared.cmp.Ordering.TheVariants.{Less, Equal, Greater}
use Rattle.std.specs.Cmp.Lexicographic.{slice_cmp}
use Rattle.std.proofs.lemmas.Cmp.{nat_list_cmp_total}
use Rattle.std.proofs.lemmas.Slice.Eq.{bytes_eq-Decides}
use Rattle.std.proofs.lemmas.List.{map-append, take_more, get_or-map, length-map}
use Rattle.std.proofs.lemmas.List.Elements.{All-get_or}
use Rattle.std.proofs.lemmas.Option.{slice_get-get_or}
use Rattle.druid_segment_rows.specs.Segment.{Segment}
use Rattle.druid_segment_rows.specs.Columns.{column, value_at, AreCodes}
use Rattle.druid_segment_rows.proofs.ColumnLemmas.{decoded}
use Rattle.druid_partial_scan.specs.Cells.{Column, look}
use Rattle.druid_partial_scan.specs.Slices.{Texts, borrowed_texts, texts_in, values_in, IsRising, IsCoded, AreCoded}
use Rattle.druid_partial_scan.proofs.RankLemmas.{code_here}

looked : (codes : List ℕ) → map (look None) codes ≡ codes
looked [] = refl
looked (c ∷ cs) = ap (λ l. c ∷ l) (looked cs)

-- codes that no table changes
pub plain_codes : (codes : Option (Bor (List ℕ))) → option_map (λ (cs : Bor (List ℕ)). map (look None) cs.now) codes ≡ option_map (λ (cs : Bor (List ℕ)). cs.now) codes
plain_codes None = refl
plain_codes (Some cs) = ap (λ l. Some l) (looked cs.now)

-- a text that is at a place
pub text_there : (texts : List (Bor (List ℕ))) (place : ℕ) (d : Bor (List ℕ)) (text : List ℕ) → place < length texts → bytes_eq (get_or texts place d).now text ≡ true → slice_get (borrowed_texts texts) place ≡ Some text
text_there texts place d text h same =
    slice_get-get_or (borrowed_texts texts) place [] (let e = length-map texts (λ (t : Bor (List ℕ)). t.now) in omega (arith, e, h))
    ∙ ap (λ t. Some t) (get_or-map (λ (t : Bor (List ℕ)). t.now) texts place d [] h ∙ (bytes_eq-Decides (get_or texts place d).now text).0 same)

-- ---- texts that rise

rec_push : (P : List ℕ → Type 0) (xs : List (List ℕ)) (y : List ℕ) → AllByRecursion P xs → P y → AllByRecursion P (xs ++ y ∷ [])
rec_push P [] y h p = (p, tt)
rec_push P (x ∷ xs) y h p = (h.0, rec_push P xs y h.1 p)

rec_last : (P : List ℕ → Type 0) (xs : List (List ℕ)) (y : List ℕ) → AllByRecursion P (xs ++ y ∷ []) → P y
rec_last P [] y h = h.0
rec_last P (x ∷ xs) y h = rec_last P xs y h.1

pub rising_first : (texts : List (Bor (List ℕ))) → IsRising (borrowed_texts (take 1 texts))
unfolding IsStrictlySortedBy
rising_first [] = tt
rising_first (t ∷ ts) = (tt, tt)

rising_push : (xs : List (List ℕ)) (x y : List ℕ) → IsRising (xs ++ x ∷ []) → slice_cmp nat_cmp x y ≡ Less → IsRising ((xs ++ x ∷ []) ++ y ∷ [])
unfolding IsStrictlySortedBy
rising_push [] x y s l = ((l, tt), (tt, tt))
rising_push (z ∷ xs) x y s l = (
  rec_push (λ w. slice_cmp nat_cmp z w ≡ Less) (xs ++ x ∷ []) y s.0 (nat_list_cmp_total.trans z x y (rec_last (λ w. slice_cmp nat_cmp z w ≡ Less) xs x s.0) l),
  rising_push xs x y s.1 l,
)

front : (texts : List (Bor (List ℕ))) (i : ℕ) (d : Bor (List ℕ)) → i < length texts → borrowed_texts (take (i + 1) texts) ≡ borrowed_texts (take i texts) ++ (get_or texts i d).now ∷ []
front texts i d h = ap borrowed_texts (take_more texts i d h) ∙ map-append (λ (t : Bor (List ℕ)). t.now) (take i texts) (get_or texts i d ∷ [])

rising_more : (texts : List (Bor (List ℕ))) (i : ℕ) (d : Bor (List ℕ)) → i + 1 < length texts → IsRising (borrowed_texts (take (i + 1) texts)) → slice_cmp nat_cmp (get_or texts i d).now (get_or texts (i + 1) d).now ≡ Less → IsRising (borrowed_texts (take (i + 1 + 1) texts))
rising_more texts i d h rising less =
    let P : List (List ℕ) → Type 0 = IsRising in
    let one = front texts i d (omega (arith, h)) in
    subst P (sym (front texts (i + 1) d h ∙ ap (λ l. l ++ (get_or texts (i + 1) d).now ∷ []) one))
    (rising_push (borrowed_texts (take i texts)) (get_or texts i d).now (get_or texts (i + 1) d).now (subst P one rising) less)

pub rising_next : (texts : List (Bor (List ℕ))) (i : ℕ) (d : Bor (List ℕ)) → 1 ≤ i → i < length texts → IsRising (borrowed_texts (take i texts)) → slice_cmp nat_cmp (get_or texts (i - 1) d).now (get_or texts i d).now ≡ Less → IsRising (borrowed_texts (take (i + 1) texts))
rising_next texts i d low h rising less =
    let e : (i - 1) + 1 ≡ i = omega (arith, low) in
    let P : ℕ → Type 0 = λ n. IsRising (borrowed_texts (take (n + 1) texts)) in
    let Q : ℕ → Type 0 = λ n. IsRising (borrowed_texts (take n texts)) in
    let R : ℕ → Type 0 = λ n. slice_cmp nat_cmp (get_or texts (i - 1) d).now (get_or texts n d).now ≡ Less in
    subst P e (rising_more texts (i - 1) d (omega (arith, low, h)) (subst Q (sym e) rising) (subst R (sym e) less))

-- what is not other than less
pub is_less : (o : Ordering) → false ≡ not (ordering_index o == 0) → o ≡ Less
is_less Less e = refl
is_less Equal e = absurd (cc)
is_less Greater e = absurd (cc)

-- ---- codes through a table

value_there : (own : List (List ℕ)) (code : ℕ) → code ≤ length own → get_or (values_in own) code None ≡ value_at own code
value_there own zero h = refl
value_there own (suc k) h =
    get_or-map (λ (t : List ℕ). Some t) own k [] None (omega (arith, h)) ∙ sym (slice_get-get_or own k [] (omega (arith, h)))

pub table_column : (segment : Segment) (place size : ℕ) (texts own : List (List ℕ)) (codes : List ℕ) (table : Vec ℕ Global) (c : Column) → AreCodes own (column place segment.rows) codes → AreCodes texts (values_in own) table.items → size ≡ length texts + 1 → c ≡ record { size = size; codes = Some (map (look (Some table)) codes) } → IsCoded segment texts (Some place) c
table_column segment place size texts own codes table c are through wide is =
    let P : Column → Type 0 = λ d. IsCoded segment texts (Some place) d in
    subst P (sym is) (record {
      has = λ row h. record {
        there = let inside = (code_here segment place row own codes are h).0 in let e = length-map codes (look (Some table)) in omega (arith, inside, e);
        below = let b = bounded row h in let e = here row h in rw e (omega (arith, b, wide));
      };
      wide = wide;
      value = λ row h.
          ap (value_at texts) (here row h)
          ∙ decoded texts (values_in own) table.items (get_or codes row 0) 0 through (inside row h)
          ∙ value_there own (get_or codes row 0) (code_here segment place row own codes are h).2
          ∙ (code_here segment place row own codes are h).1;
    })
  where
    here : (row : ℕ) → row < length segment.rows → get_or (map (look (Some table)) codes) row 0 ≡ get_or table.items (get_or codes row 0) 0
    here row h = get_or-map (look (Some table)) codes row 0 0 (code_here segment place row own codes are h).0

    long : length table.items ≡ suc (length own)
    long = sym (length-map table.items (value_at texts)) ∙ ap length through.stand ∙ ap suc (length-map own (λ (t : List ℕ). Some t))

    inside : (row : ℕ) → row < length segment.rows → get_or codes row 0 < length table.items
    inside row h = let b = (code_here segment place row own codes are h).2 in let e = long in omega (arith, b, e)

    bounded : (row : ℕ) → row < length segment.rows → get_or table.items (get_or codes row 0) 0 ≤ length texts
    bounded row h = All-get_or (λ code. code ≤ length texts) table.items (get_or codes row 0) 0 (inside row h) through.bounded

coded_push : (segment : Segment) (ts : Texts) (ps : List (Option ℕ)) (cs : List Column) (t : List (List ℕ)) (p : Option ℕ) (c : Column) → AreCoded segment ts ps cs → IsCoded segment t p c → AreCoded segment (ts ++ t ∷ []) (ps ++ p ∷ []) (cs ++ c ∷ [])
coded_push segment [] [] [] t p c are one = (one, tt)
coded_push segment [] [] (d ∷ ds) t p c are one = absurd are
coded_push segment [] (q ∷ qs) ds t p c are one = absurd are
coded_push segment (u ∷ us) [] ds t p c are one = absurd are
coded_push segment (u ∷ us) (q ∷ qs) [] t p c are one = absurd are
coded_push segment (u ∷ us) (q ∷ qs) (d ∷ ds) t p c are one = (are.0, coded_push segment us qs ds t p c are.1 one)

pub coded_next : (segment : Segment) (lists : List (Bor (List (Bor (List ℕ))))) (places : List (Option ℕ)) (i : ℕ) (l : Bor (List (Bor (List ℕ)))) (d p : Option ℕ) (cs more : List Column) (c : Column) → i < length lists → i < length places → p ≡ get_or places i d → AreCoded segment (texts_in (take i lists)) (take i places) cs → IsCoded segment (borrowed_texts (get_or lists i l).now) p c → more ≡ cs ++ c ∷ [] → AreCoded segment (texts_in (take (i + 1) lists)) (take (i + 1) places) more
coded_next segment lists places i l d p cs more c h k ps are one e =
    let f : Bor (List (Bor (List ℕ))) → List (List ℕ) = λ (v : Bor (List (Bor (List ℕ)))). borrowed_texts v.now in
    let own = f (get_or lists i l) in
    let texts : texts_in (take (i + 1) lists) ≡ texts_in (take i lists) ++ own ∷ [] =
    ap texts_in (take_more lists i l h) ∙ map-append f (take i lists) (get_or lists i l ∷ []) in
    let P : Texts → Type 0 = λ ts. AreCoded segment ts (take (i + 1) places) more in
    let Q : List (Option ℕ) → Type 0 = λ qs. AreCoded segment (texts_in (take i lists) ++ own ∷ []) qs more in
    let R : List Column → Type 0 = λ ds. AreCoded segment (texts_in (take i lists) ++ own ∷ []) (take i places ++ p ∷ []) ds in
    subst P (sym texts) (subst Q (sym (take_more places i d k ∙ ap (λ q. take i places ++ q ∷ []) (sym ps))) (subst R (sym e) (coded_push segment (texts_in (take i lists)) (take i places) cs own p c are one)))
