-- Numbers of texts, as one more text gets one.
use Rattle.std.proofs.Common.{◌≡◌, ◌∙◌, ℕ, zero, suc, ◌-◌, ◌<◌, ◌≤◌, List, [], ◌∷◌, ◌++◌, length, map, take, drop, slice_get, Option, Some, All, string_bytes, ap, sym, refl, arith, ⊎_elim, Result, Ok, Err, OnErr, IfOk, take-append-drop, length-take}
use Rattle.std.specs.Option.{option_map}
use Rattle.std.proofs.lemmas.Bool.{cases_eq}
use Rattle.std.proofs.lemmas.List.{take_at, map_push, get_or_push, get_or_append_left, length_push}
use Rattle.std.proofs.lemmas.List.Elements.{All-head, All-tail, All-weaker}
use Rattle.std.proofs.lemmas.Option.{slice_get_within, slice_get-map}
use Rattle.druid_segment_rows.specs.Columns.{value_at}
use Rattle.druid_segment_rows.specs.Numbering.{Entry, AreNumbered, texts_in}

-- one more entry has the next number
pub AreNumbered_pushed : (es : List Entry) (e : Entry) → AreNumbered es → e.1 ≡ suc (length es) → AreNumbered (es ++ e ∷ [])
AreNumbered_pushed es e h is i d lt =
    ⊎_elim (λ (same : length es ≡ i). ap (λ (x : Entry). x.1) (get_or_push es e d i same) ∙ is ∙ ap suc same) (λ (apart : length es ≡ i → ⊥).
    let less : i < length es = omega (arith, lt, length_push es e, apart) in
    ap (λ (x : Entry). x.1) (get_or_append_left es (e ∷ []) d i less) ∙ h i d less) (cases_eq (length es) i)

-- the text of a number is that of the entry in its place
pub text_found : (es : List Entry) (number : ℕ) (found : Option Entry) → 1 ≤ number → found ≡ slice_get es (number - 1) → option_map (λ (e : Entry). string_bytes e.0) found ≡ value_at (texts_in es) number
text_found es zero found low is = absurd (omega arith)
text_found es (suc k) found low is =
    let place : suc k - 1 ≡ k = omega arith in
    ap (option_map (λ (e : Entry). string_bytes e.0)) (is ∙ ap (slice_get es) place) ∙ sym (slice_get-map (λ (e : Entry). string_bytes e.0) es k)

-- what was there stays where a text is added
pub kept_front : (xs : List (List ℕ)) (text : List ℕ) → take (length xs) (xs ++ text ∷ []) ≡ xs
kept_front xs text = take_at xs (text ∷ []) (length xs) refl

-- the last text of a list has the last number
pub last_number : (xs : List (List ℕ)) (text : List ℕ) → value_at (xs ++ text ∷ []) (suc (length xs)) ≡ Some text
last_number [] text = refl
last_number (x ∷ xs) text = last_number xs text

-- a code of a text is that of one in the list
pub bounded_value : (xs : List (List ℕ)) (n : ℕ) (text : List ℕ) → value_at xs n ≡ Some text → n ≤ length xs
bounded_value xs zero text h = omega arith
bounded_value xs (suc k) text h = slice_get_within xs k text h

-- ---- codes, as texts come

pub value_front : (xs ys : List (List ℕ)) (n : ℕ) → n ≤ length xs → value_at (xs ++ ys) n ≡ value_at xs n
value_front xs ys zero h = refl
value_front [] ys (suc k) h = absurd (omega arith)
value_front (x ∷ xs) ys (suc zero) h = refl
value_front (x ∷ xs) ys (suc (suc k)) h = value_front xs ys (suc k) (omega (arith, h))

value_kept : (old new : List (List ℕ)) (n : ℕ) → take (length old) new ≡ old → n ≤ length old → value_at new n ≡ value_at old n
value_kept old new n kept h =
    let split : old ++ drop (length old) new ≡ new = ap (λ xs. xs ++ drop (length old) new) (sym kept) ∙ take-append-drop (length old) new in
    ap (λ xs. value_at xs n) (sym split) ∙ value_front old (drop (length old) new) n h

pub codes_kept : (old new : List (List ℕ)) (codes : List ℕ) → take (length old) new ≡ old → All (λ code. code ≤ length old) codes → map (value_at new) codes ≡ map (value_at old) codes
codes_kept old new [] kept all = refl
codes_kept old new (code ∷ codes) kept all =
    let here = value_kept old new code kept (All-head (λ code. code ≤ length old) code codes all) in
    let rest = codes_kept old new codes kept (All-tail (λ code. code ≤ length old) code codes all) in
    λ i. here i ∷ rest i

pub codes_bounded : (old new : List (List ℕ)) (codes : List ℕ) → take (length old) new ≡ old → All (λ code. code ≤ length old) codes → All (λ code. code ≤ length new) codes
codes_bounded old new codes kept all =
    let more : length old ≤ length new = omega (arith, ap length kept, length-take (length old) new) in
    All-weaker (λ code. code ≤ length old) (λ code. code ≤ length new) (λ code le. omega (arith, le, more)) codes all

-- one more code
pub codes_pushed : (old new : List (List ℕ)) (codes : List ℕ) (code : ℕ) (values : List (Option (List ℕ))) (value : Option (List ℕ)) → take (length old) new ≡ old → All (λ code. code ≤ length old) codes → map (value_at old) codes ≡ values → value_at new code ≡ value
    → map (value_at new) (codes ++ code ∷ []) ≡ values ++ value ∷ []
codes_pushed old new codes code values value kept all is here =
    map_push (value_at new) codes code ∙ (λ i. (codes_kept old new codes kept all ∙ is) i ++ here i ∷ [])

pub on_err : {T E P : Type 0} (r : Result T E) → P → OnErr r P
on_err (Ok x) p = tt
on_err (Err e) p = p

-- what holds of a value where there is one
pub if_ok : {T E : Type 0} {P Q : T → Type 0} (r : Result T E) → ((x : T) → P x → Q x) → IfOk r P → IfOk r Q
if_ok (Ok x) f p = f x p
if_ok (Err e) f p = tt
