-- A dimension, read and written: its texts rise, and each has a row.
use Rattle.std.proofs.Common.{◌≡◌, ℕ, zero, suc, ◌-◌, ◌^◌, ◌<◌, ◌≤◌, true, eqb, List, [], ◌∷◌, ◌++◌, length, get_or, map, Option, Some, None, Ordering, Less, Equal, Greater, Ok, refl, sym, ap, subst, ◌∙◌, append_assoc, arith, ⊎_elim, leb}
use Rattle.std.specs.Prelude.{All, Contains}
use Rattle.std.specs.List.{flat_map, list_any, AllByRecursion}
use Rattle.std.specs.List.Sorted.{IsStrictlySortedBy}
use Rattle.std.specs.Ordering.{nat_cmp, is_lt}
use Rattle.std.specs.Cmp.Lexicographic.{slice_cmp}
use Rattle.std.specs.Int.{w32, to_be_bytes}
use Rattle.std.proofs.lemmas.Bool.{and_parts, and_from, leb-true, le-leb, eqb-true, eq-eqb, true≢false, cases_lt}
use Rattle.std.proofs.lemmas.Cmp.{nat_list_cmp_total}
use Rattle.std.proofs.lemmas.List.{get_or-map, get_or_default, length-map}
use Rattle.std.proofs.lemmas.List.Concat.{flat_map-cons}
use Rattle.std.proofs.lemmas.List.Elements.{All-nil, All-cons, All-head, All-tail, All-contains}
use Rattle.std.proofs.lemmas.List.Folds.{list_any_at, Any-from_list_any}
use Rattle.std.proofs.lemmas.Map.Steps.{le-length_from_below}
use Rattle.std.proofs.lemmas.Option.{slice_get-get_or}
use Rattle.druid_base.proofs.MemberLemmas.{Contains-map, Contains-map_back}
use Rattle.druid_segment_rows.specs.Columns.{value_at, IsDictionary, AreCodes}
use Rattle.druid_segment_rows.specs.Segment.{max_rows}
use Rattle.druid_segment_rows.proofs.ColumnLemmas.{IsDictionary_unique, AreCodes_unique, one_code}
use Rattle.druid_segment_rows.proofs.PlaceLemmas.{contains_value}
use Rattle.druid_segment_file.specs.declared.fault.FileFault.{FileFault}
use Rattle.druid_segment_file.specs.ColumnBytes.{Coded, value, dimension, IsCoded}
use Rattle.druid_time.specs.Results.{◌>>=◌}
use Rattle.druid_segment_file.specs.Parts.{at_most}
use Rattle.druid_segment_file.specs.ColumnReader.{is_above, value_text_at, value_texts_at, code_at, have_rows, codes_at, coded_at, dimension_at, decoded}
use Rattle.druid_segment_file.proofs.PartLemmas.{bind_ok, ok_is, at_most_ok, at_most_within, accepted_read, IsBytes, Takes, Takes-then, Reads, step_takes, step_again, wide32, number_read, IsText, text_read, AreEach, each_read}
use Rattle.druid_segment_file.proofs.RowLemmas.{IsTextValue}

abbrev text_cmp : List ℕ → List ℕ → Ordering
text_cmp = slice_cmp nat_cmp

-- ---- the texts

-- each is a text, and stands above the one before it
abbrev pub AreRising : Option (List ℕ) → List (List ℕ) → Type 0
AreRising last [] = Unit {0}
AreRising last (text ∷ more) = (IsText text × (is_above last text ≡ true)) × AreRising (Some text) more

pub value_text_read : (short : FileFault) (last : Option (List ℕ)) → Reads (List ℕ) (value_text_at short last) value (λ text. IsText text × (is_above last text ≡ true))
unfolding value_text_at
value_text_read short last =
    accepted_read (is_above last) (λ text. IsText text × (is_above last text ≡ true)) (text_read short) (λ text is fine. (fine, is)) (λ text h. (h.0, h.1))

value_texts_take : (short : FileFault) (n : ℕ) (last : Option (List ℕ)) (bytes : List ℕ) (x : List (List ℕ) × List ℕ) → IsBytes bytes → value_texts_at short n last bytes ≡ Ok x → Takes bytes (flat_map value x.0) x.1 × (length x.0 ≡ n) × AreRising last x.0
unfolding value_texts_at
value_texts_take short zero last bytes x fits e =
    subst (λ (p : List (List ℕ) × List ℕ). Takes bytes (flat_map value p.0) p.1 × (length p.0 ≡ 0) × AreRising last p.0) (ok_is ([], bytes) x e) (record { parts = refl; rest_fits = fits }, refl, tt)
value_texts_take short (suc n) last bytes x fits e =
    let a = step_takes (value_text_read short last) (λ text. value_texts_at short n (Some text.0) text.1 >>= λ others. Ok (text.0 ∷ others.0, others.1)) bytes x fits e in
    let b = bind_ok (value_texts_at short n (Some a.0.0) a.0.1) (λ others. Ok (a.0.0 ∷ others.0, others.1)) x a.3 in
    let second = value_texts_take short n (Some a.0.0) a.0.1 b.0 a.1.rest_fits b.1 in
    let both = Takes-then bytes (value a.0.0) a.0.1 (flat_map value b.0.0) b.0.1 a.1 second.0 in
    let made : List (List ℕ) × List ℕ = (a.0.0 ∷ b.0.0, b.0.1) in
    subst (λ (p : List (List ℕ) × List ℕ). Takes bytes (flat_map value p.0) p.1 × (length p.0 ≡ suc n) × AreRising last p.0) (ok_is made x b.2) (rw flat_map-cons both, ap suc second.1, (a.2, second.2))

value_texts_again : (short : FileFault) (xs : List (List ℕ)) (last : Option (List ℕ)) (rest : List ℕ) → AreRising last xs → value_texts_at short (length xs) last (flat_map value xs ++ rest) ≡ Ok (xs, rest)
unfolding value_texts_at
value_texts_again short [] last rest h = refl
value_texts_again short (x ∷ xs) last rest h =
    let regrouped : flat_map value (x ∷ xs) ++ rest ≡ value x ++ (flat_map value xs ++ rest) = ap (λ (t : List ℕ). t ++ rest) (flat_map-cons value x xs) ∙ append_assoc (value x) (flat_map value xs) rest in
    ap (value_texts_at short (suc (length xs)) last) regrouped
    ∙ step_again (value_text_read short last) (λ text. value_texts_at short (length xs) (Some text.0) text.1 >>= λ others. Ok (text.0 ∷ others.0, others.1)) x (flat_map value xs ++ rest) h.0
    ∙ ap (λ r. r >>= λ others. Ok (x ∷ others.0, others.1)) (value_texts_again short xs (Some x) rest h.1)

abbrev AreTexts : ℕ → List (List ℕ) → Type 0
AreTexts count xs = (length xs ≡ count) × AreRising None xs

value_texts_read : (short : FileFault) (count : ℕ) → Reads (List (List ℕ)) (value_texts_at short count None) (flat_map value) (AreTexts count)
value_texts_read short count = record {
  takes = λ bytes x fits e. let t = value_texts_take short count None bytes x fits e in (t.0, (t.1, t.2));
  again = λ xs rest h. subst (λ (k : ℕ). value_texts_at short k None (flat_map value xs ++ rest) ≡ Ok (xs, rest)) h.0 (value_texts_again short xs None rest h.1);
}

-- ---- the codes

code_read : (short : FileFault) (count : ℕ) → count < 2 ^ 32 → Reads ℕ (code_at short count) (to_be_bytes w32) (λ code. code ≤ count)
unfolding code_at
code_read short count small =
    accepted_read (λ n. leb n count) (λ n. n ≤ count) (number_read short w32 (2 ^ 32) wide32) (λ code is fine. leb-true code count is) (λ code h. (omega (arith, h, small), le-leb code count h))

-- a code for each row, and a row for each text
pub record AreUsed (count rows : ℕ) (codes : List ℕ) : Type 0 where
  pub each : AreEach (λ code. code ≤ count) rows codes
  pub used : have_rows count codes ≡ true

codes_read : (short : FileFault) (count rows : ℕ) → count < 2 ^ 32 → Reads (List ℕ) (codes_at short count rows) (flat_map (to_be_bytes w32)) (AreUsed count rows)
unfolding codes_at
codes_read short count rows small =
    accepted_read (have_rows count) (AreUsed count rows) (each_read (code_at short count) (to_be_bytes w32) (λ code. code ≤ count) (code_read short count small) rows) (λ codes is fine. record { each = fine; used = is }) (λ codes h. (h.each, h.used))

-- ---- a dimension

pub record IsDimension (rows : ℕ) (coded : Coded) : Type 0 where
  pub few : length coded.texts ≤ rows
  pub texts : AreRising None coded.texts
  pub codes : AreUsed (length coded.texts) rows coded.codes

abbrev coded_of : List (List ℕ) → List ℕ → Coded
coded_of texts codes = record { texts = texts; codes = codes }

dimension_joins : (a b c e : List ℕ) (texts : List (List ℕ)) (codes : List ℕ) → Takes a (to_be_bytes w32 (length texts)) b → Takes b (flat_map value texts) c → Takes c (flat_map (to_be_bytes w32) codes) e → Takes a (dimension (coded_of texts codes)) e
dimension_joins a b c e texts codes t1 t2 t3 =
    Takes-then a (to_be_bytes w32 (length texts) ++ flat_map value texts) c (flat_map (to_be_bytes w32) codes) e (Takes-then a (to_be_bytes w32 (length texts)) b (flat_map value texts) c t1 t2) t3

dimension_takes : (short : FileFault) (rows : ℕ) (bytes : List ℕ) (x : Coded × List ℕ) → rows ≤ max_rows → IsBytes bytes → dimension_at short rows bytes ≡ Ok x → Takes bytes (dimension x.0) x.1 × IsDimension rows x.0
unfolding dimension_at coded_at
dimension_takes short rows bytes x few fits e =
    let s = step_takes (number_read short w32 (2 ^ 32) wide32) _ bytes x fits e in
    let m = bind_ok (at_most rows s.0.0) (λ count. value_texts_at short count None s.0.1 >>= λ texts. codes_at short count rows texts.1 >>= λ codes. Ok (coded_of texts.0 codes.0, codes.1)) x s.3 in
    let a = at_most_ok rows s.0.0 m.0 m.1 in
    let t = step_takes (value_texts_read short m.0) (λ texts. codes_at short m.0 rows texts.1 >>= λ codes. Ok (coded_of texts.0 codes.0, codes.1)) s.0.1 x s.1.rest_fits m.2 in
    let u = step_takes (codes_read short m.0 rows (omega (arith, a.1, few))) (λ codes. Ok (coded_of t.0.0 codes.0, codes.1)) t.0.1 x t.1.rest_fits t.3 in
    let count : s.0.0 ≡ length t.0.0 = a.0 ∙ sym t.2.0 in
    let first : Takes bytes (to_be_bytes w32 (length t.0.0)) s.0.1 = subst (λ (n : ℕ). Takes bytes (to_be_bytes w32 n) s.0.1) count s.1 in
    let is : IsDimension rows (coded_of t.0.0 u.0.0) = record {
      few = omega (arith, a.1, t.2.0);
      texts = t.2.1;
      codes = subst (λ (n : ℕ). AreUsed n rows u.0.0) (sym t.2.0) u.2;
    } in
    subst (λ (p : Coded × List ℕ). Takes bytes (dimension p.0) p.1 × IsDimension rows p.0) (ok_is (coded_of t.0.0 u.0.0, u.0.1) x u.3)
    (dimension_joins bytes s.0.1 t.0.1 u.0.1 t.0.0 u.0.0 first t.1 u.1, is)

dimension_regroups : (coded : Coded) (rest : List ℕ) → dimension coded ++ rest ≡ to_be_bytes w32 (length coded.texts) ++ (flat_map value coded.texts ++ (flat_map (to_be_bytes w32) coded.codes ++ rest))
dimension_regroups coded rest =
    append_assoc (to_be_bytes w32 (length coded.texts) ++ flat_map value coded.texts) (flat_map (to_be_bytes w32) coded.codes) rest
    ∙ append_assoc (to_be_bytes w32 (length coded.texts)) (flat_map value coded.texts) (flat_map (to_be_bytes w32) coded.codes ++ rest)

dimension_again : (short : FileFault) (rows : ℕ) (coded : Coded) (rest : List ℕ) → rows ≤ max_rows → IsDimension rows coded → dimension_at short rows (dimension coded ++ rest) ≡ Ok (coded, rest)
unfolding dimension_at coded_at
dimension_again short rows coded rest few h =
    let n = length coded.texts in
    let codes = flat_map (to_be_bytes w32) coded.codes ++ rest in
    let small : n < 2 ^ 32 = omega (arith, h.few, few) in
    ap (dimension_at short rows) (dimension_regroups coded rest)
    ∙ step_again (number_read short w32 (2 ^ 32) wide32) _ n (flat_map value coded.texts ++ codes) small
    ∙ ap (λ r. r >>= λ count. value_texts_at short count None (flat_map value coded.texts ++ codes) >>= λ texts. codes_at short count rows texts.1 >>= λ made. Ok (coded_of texts.0 made.0, made.1)) (at_most_within rows n h.few)
    ∙ step_again (value_texts_read short n) (λ texts. codes_at short n rows texts.1 >>= λ made. Ok (coded_of texts.0 made.0, made.1)) coded.texts codes (refl, h.texts)
    ∙ step_again (codes_read short n rows small) (λ made. Ok (coded_of coded.texts made.0, made.1)) coded.codes rest h.codes

pub dimension_read : (short : FileFault) (rows : ℕ) → rows ≤ max_rows → Reads Coded (dimension_at short rows) dimension (IsDimension rows)
dimension_read short rows few = record {
  takes = λ bytes x fits e. dimension_takes short rows bytes x few fits e;
  again = λ coded rest h. dimension_again short rows coded rest few h;
}

-- ---- texts that rise are in order

is_less : (x y : List ℕ) → is_above (Some x) y ≡ true → text_cmp x y ≡ Less
is_less x y e = elim (text_cmp x y) as (λ o. text_cmp x y ≡ o → text_cmp x y ≡ Less) [
  | Less ↦ λ is. is
  | Equal ↦ λ is. absurd (true≢false (sym e ∙ ap is_lt is))
  | Greater ↦ λ is. absurd (true≢false (sym e ∙ ap is_lt is))
] refl

rec_weaker : {X : Type 0} (P Q : X → Type 0) → ((x : X) → P x → Q x) → (xs : List X) → AllByRecursion P xs → AllByRecursion Q xs
rec_weaker P Q f [] h = tt
rec_weaker P Q f (x ∷ xs) h = (f x h.0, rec_weaker P Q f xs h.1)

-- each stands above the one before it
abbrev pub AreAbove : Option (List ℕ) → List (List ℕ) → Type 0
AreAbove last [] = Unit {0}
AreAbove last (text ∷ more) = (is_above last text ≡ true) × AreAbove (Some text) more

sorted_after : (x : List ℕ) (xs : List (List ℕ)) → AreAbove (Some x) xs → IsStrictlySortedBy text_cmp (x ∷ xs)
unfolding IsStrictlySortedBy
sorted_after x [] h = (tt, tt)
sorted_after x (y ∷ ys) h =
    let less = is_less x y h.0 in
    let rest = sorted_after y ys h.1 in
    ((less, rec_weaker (λ z. text_cmp y z ≡ Less) (λ z. text_cmp x z ≡ Less) (λ z. nat_list_cmp_total.trans x y z less) ys rest.0), rest)

pub above_sorted : (xs : List (List ℕ)) → AreAbove None xs → IsStrictlySortedBy text_cmp xs
unfolding IsStrictlySortedBy
above_sorted [] h = tt
above_sorted (x ∷ xs) h = sorted_after x xs h.1

rising_above : (last : Option (List ℕ)) (xs : List (List ℕ)) → AreRising last xs → AreAbove last xs
rising_above last [] h = tt
rising_above last (x ∷ xs) h = (h.0.1, rising_above (Some x) xs h.1)

rising_sorted : (xs : List (List ℕ)) → AreRising None xs → IsStrictlySortedBy text_cmp xs
rising_sorted xs h = above_sorted xs (rising_above None xs h)

pub rising_texts : (last : Option (List ℕ)) (xs : List (List ℕ)) → AreRising last xs → All IsText xs
rising_texts last [] h = All-nil IsText
rising_texts last (x ∷ xs) h = All-cons IsText x xs h.0.0 (rising_texts (Some x) xs h.1)

rising_after : (x : List ℕ) (xs : List (List ℕ)) → IsStrictlySortedBy text_cmp (x ∷ xs) → All IsText xs → AreRising (Some x) xs
unfolding IsStrictlySortedBy
rising_after x [] h all = tt
rising_after x (y ∷ ys) h all = ((All-head IsText y ys all, ap is_lt h.0.0), rising_after y ys h.1 (All-tail IsText y ys all))

pub sorted_rising : (xs : List (List ℕ)) → IsStrictlySortedBy text_cmp xs → All IsText xs → AreRising None xs
unfolding IsStrictlySortedBy
sorted_rising [] h all = tt
sorted_rising (x ∷ xs) h all = ((All-head IsText x xs all, refl), rising_after x xs h (All-tail IsText x xs all))

-- ---- texts that have rows

pub rows_found : (count : ℕ) (codes : List ℕ) → have_rows count codes ≡ true → (k : ℕ) → k < count → Contains codes (suc k)
rows_found zero codes e k lt = absurd (omega (arith, lt))
rows_found (suc n) codes e k lt =
    let parts = and_parts (list_any (λ code. eqb code (suc n)) codes) (have_rows n codes) e in
    ⊎_elim (λ (lt : k < n). rows_found n codes parts.1 k lt) (λ (le : n ≤ k).
    let at = Any-from_list_any (λ code. eqb code (suc n)) codes parts.0 in
    let same : at.1 ≡ suc k = eqb-true at.1 (suc n) at.4 ∙ omega (arith, le, lt) in
    (at.0, at.2, subst (λ c. get_or codes at.0 c ≡ c) same at.3)) (cases_lt k n)

pub rows_there : (count : ℕ) (codes : List ℕ) → ((k : ℕ) → k < count → Contains codes (suc k)) → have_rows count codes ≡ true
rows_there zero codes all = refl
rows_there (suc n) codes all =
    let at = all n (omega arith) in
    and_from (list_any (λ code. eqb code (suc n)) codes) (have_rows n codes) (list_any_at (λ code. eqb code (suc n)) codes at.0 (suc n) at.1 (eq-eqb (get_or codes at.0 (suc n)) (suc n) at.2)) (rows_there n codes (λ k lt. all k (omega (arith, lt))))

-- no more texts than rows, where each has one
pub no_more_texts : (count : ℕ) (codes : List ℕ) → have_rows count codes ≡ true → count ≤ length codes
no_more_texts count codes e =
    let lowered = map (λ code. code - 1) codes in
    let within = le-length_from_below lowered count (λ k lt.
    let there = rows_found count codes e k lt in
    let at : get_or lowered there.0 k ≡ k = get_or-map (λ code. code - 1) codes there.0 (suc k) k there.1 ∙ ap (λ (code : ℕ). code - 1) there.2 ∙ omega arith in
    list_any_at (eqb k) lowered there.0 k (omega (arith, there.1, length-map codes (λ (code : ℕ). code - 1))) (eq-eqb k (get_or lowered there.0 k) (sym at))) in
    omega (arith, within, length-map codes (λ (code : ℕ). code - 1))

-- ---- a dictionary, and codes in it

pub is_dictionary : (texts : List (List ℕ)) (codes : List ℕ) → IsStrictlySortedBy text_cmp texts → have_rows (length texts) codes ≡ true → IsDictionary (map (value_at texts) codes) texts
is_dictionary texts codes sorted used = record {
  rising = sorted;
  occur = λ text. (
    λ there.
        let row = rows_found (length texts) codes used there.0 there.1 in
        subst (Contains (map (value_at texts) codes)) (slice_get-get_or texts there.0 text there.1 ∙ ap Some there.2) (Contains-map_back (value_at texts) codes (suc there.0) row),
    λ there.
        let code = Contains-map (value_at texts) codes (Some text) there in
        contains_value texts code.0 text code.2,
  );
}

pub is_coded : (rows : ℕ) (coded : Coded) → IsDimension rows coded → IsCoded (decoded coded) coded
is_coded rows coded h = record {
  dictionary = is_dictionary coded.texts coded.codes (rising_sorted coded.texts h.texts) h.codes.used;
  codes = record { stand = refl; bounded = h.codes.each.1 };
}

pub is_dimension : (rows : ℕ) (values : List (Option (List ℕ))) (coded : Coded) → IsCoded values coded → length values ≡ rows → All IsTextValue values → IsDimension rows coded
is_dimension rows values coded h long fine =
    let texts = coded.texts in
    let count = length texts in
    let lengths : length coded.codes ≡ rows = sym (length-map coded.codes (value_at texts)) ∙ ap length h.codes.stand ∙ long in
    let dictionary : IsDictionary (decoded coded) texts = subst (λ vs. IsDictionary vs texts) (sym h.codes.stand) h.dictionary in
    let used = rows_there count coded.codes (λ k lt.
    let here : Contains texts (get_or texts k []) = (k, lt, get_or_default texts k _ _ lt) in
    let there = Contains-map (value_at texts) coded.codes (Some (get_or texts k [])) ((dictionary.occur (get_or texts k [])).0 here) in
    let high : there.0 ≤ count = All-contains (λ code. code ≤ count) coded.codes there.0 h.codes.bounded there.1 in
    let same : there.0 ≡ suc k = one_code (decoded coded) texts there.0 (suc k) dictionary high lt (there.2 ∙ sym (slice_get-get_or texts k [] lt)) in
    subst (Contains coded.codes) same there.1) in
    record {
      few = omega (arith, no_more_texts count coded.codes used, lengths);
      texts = sorted_rising texts h.dictionary.rising (λ k d lt.
          let here : Contains texts (get_or texts k d) = (k, lt, get_or_default texts k _ _ lt) in
          All-contains IsTextValue values (Some (get_or texts k d)) fine ((h.dictionary.occur (get_or texts k d)).0 here));
      codes = record { each = (lengths, h.codes.bounded); used = used };
    }

-- a segment's dimension is coded in one way
pub one_coded : (values : List (Option (List ℕ))) (a b : Coded) → IsCoded values a → IsCoded values b → a ≡ b
one_coded values a b h k =
    let texts : a.texts ≡ b.texts = IsDictionary_unique values a.texts b.texts h.dictionary k.dictionary in
    let codes : AreCodes a.texts values b.codes = subst (λ (ts : List (List ℕ)). AreCodes ts values b.codes) (sym texts) k.codes in
    let same : a.codes ≡ b.codes = AreCodes_unique values a.texts a.codes b.codes h.dictionary h.codes codes in
    λ i. coded_of (texts i) (same i)
