-- Dictionaries: there is one of the same values, and its codes tell these.
use Rattle.std.proofs.Common.{◌≡◌, ◌∙◌, T, is_eq, is_none, unwrap_or, ℕ, zero, suc, ◌-◌, ◌<◌, ◌≤◌, List, [], ◌∷◌, length, map, get_or, slice_get, All, Contains, Option, Some, None, Ordering, Less, Equal, Greater, nat_cmp, ap, ap₂, sym, subst, refl, ⊎_elim, arith}
use Rattle.std.specs.Cmp.Lexicographic.{slice_cmp}
use Rattle.std.specs.Ordering.{ordering_reverse}
use Rattle.std.specs.List.Sorted.{IsStrictlySortedBy}
use native.Mathlib.Numerals.{unary_clauses}
use Rattle.std.proofs.lemmas.List.{same_lists, get_or-map, get_or_default, length-map}
use Rattle.std.proofs.lemmas.List.Elements.{All-from_recursion, All-contains}
use Rattle.std.proofs.lemmas.Map.Keys.{sorted_head, sorted_tail, Less-from_sorted}
use Rattle.std.proofs.lemmas.Map.Made.{Contains-tail}
use Rattle.std.proofs.lemmas.Option.{slice_get-get_or}
use Rattle.std.proofs.lemmas.Bool.{cases_order}
use Rattle.std.proofs.lemmas.Cmp.{nat_list_cmp_total, tied_itself}
use Rattle.std.specs.FinMap.{nat_cmp-IsAntisymmetric, slice_cmp-IsAntisymmetric}
use Rattle.druid_segment_rows.specs.Columns.{IsDictionary, AreCodes, value_at}

abbrev pub text_cmp : List ℕ → List ℕ → Ordering
text_cmp = slice_cmp nat_cmp

-- what one list has, the other has
abbrev Within : List (List ℕ) → List (List ℕ) → Type 0
Within xs ys = (t : List ℕ) → Contains xs t → Contains ys t

first : (x : List ℕ) (xs : List (List ℕ)) → Contains (x ∷ xs) x
first x xs = (0, omega arith, refl)

later : (x : List ℕ) (xs : List (List ℕ)) (t : List ℕ) → Contains xs t → Contains (x ∷ xs) t
later x xs t h = (suc h.0, omega (arith, h.1), h.2)

pub not_less : (x y : List ℕ) → text_cmp x y ≡ Less → x ≡ y → ⊥
not_less x y less same = absurd (subst (λ r. T (is_eq r)) (sym (sym less ∙ ap (λ z. text_cmp x z) (sym same) ∙ tied_itself nat_list_cmp_total x)) tt)

-- what is below a first text stands nowhere
none_below : (t y : List ℕ) (ys : List (List ℕ)) → IsStrictlySortedBy text_cmp (y ∷ ys) → text_cmp t y ≡ Less → Contains (y ∷ ys) t → ⊥
none_below t y ys sorted less there =
    let rest = Contains-tail y ys t (λ same. not_less t y less (sym same)) there in
    let above : text_cmp y t ≡ Less = All-contains (λ z. text_cmp y z ≡ Less) ys t (All-from_recursion (λ z. text_cmp y z ≡ Less) ys (sorted_head text_cmp y ys sorted)) rest in
    not_less t t (nat_list_cmp_total.trans t y t less above) refl

-- the others of one list are among the others of the other
rest_within : (x : List ℕ) (xs ys : List (List ℕ)) → IsStrictlySortedBy text_cmp (x ∷ xs) → Within (x ∷ xs) (x ∷ ys) → Within xs ys
rest_within x xs ys sorted within t h =
    let above : text_cmp x t ≡ Less = All-contains (λ z. text_cmp x z ≡ Less) xs t (All-from_recursion (λ z. text_cmp x z ≡ Less) xs (sorted_head text_cmp x xs sorted)) h in
    Contains-tail x ys t (not_less x t above) (within t (later x xs t h))

-- two lists in order that have the same texts are one
pub same_texts : (xs ys : List (List ℕ)) → IsStrictlySortedBy text_cmp xs → IsStrictlySortedBy text_cmp ys → Within xs ys → Within ys xs → xs ≡ ys
same_texts [] [] hx hy to back = refl
same_texts [] (y ∷ ys) hx hy to back = absurd (omega (arith, (back y (first y ys)).1))
same_texts (x ∷ xs) [] hx hy to back = absurd (omega (arith, (to x (first x xs)).1))
same_texts (x ∷ xs) (y ∷ ys) hx hy to back =
    elim (text_cmp x y) as (λ o. text_cmp x y ≡ o → x ∷ xs ≡ y ∷ ys) [
      | Less ↦ λ less. absurd (none_below x y ys hy less (to x (first x xs)))
      | Equal ↦ λ tie.
          let same : x ≡ y = slice_cmp-IsAntisymmetric nat_cmp-IsAntisymmetric x y tie in
          let to' : Within (x ∷ xs) (x ∷ ys) = subst (λ z. Within (x ∷ xs) (z ∷ ys)) (sym same) to in
          let back' : Within (x ∷ ys) (x ∷ xs) = subst (λ z. Within (z ∷ ys) (x ∷ xs)) (sym same) back in
          let hy' : IsStrictlySortedBy text_cmp (x ∷ ys) = subst (λ z. IsStrictlySortedBy text_cmp (z ∷ ys)) (sym same) hy in
          ap₂ (λ z zs. z ∷ zs) same (same_texts xs ys (sorted_tail text_cmp x xs hx) (sorted_tail text_cmp y ys hy) (rest_within x xs ys hx to') (rest_within x ys xs hy' back'))
      | Greater ↦ λ greater. absurd (none_below y x xs hx (nat_list_cmp_total.antisymm y x ∙ ap ordering_reverse greater) (back y (first y ys)))
    ] refl

-- there is one dictionary of the same values
pub IsDictionary_unique : (values : List (Option (List ℕ))) (texts others : List (List ℕ)) → IsDictionary values texts → IsDictionary values others → texts ≡ others
IsDictionary_unique values texts others h k =
    same_texts texts others h.rising k.rising (λ t there. (k.occur t).1 ((h.occur t).0 there)) (λ t there. (h.occur t).1 ((k.occur t).0 there))

-- what codes stand for has these as its codes in any dictionary
pub AreCodes-here : (texts : List (List ℕ)) (codes : List ℕ) (values : List (Option (List ℕ))) → map (value_at texts) codes ≡ values → IsDictionary (map (value_at texts) codes) texts → All (λ code. code ≤ length texts) codes → (others : List (List ℕ)) → IsDictionary values others → AreCodes others values codes
AreCodes-here texts codes values is mine bounded others h =
    let same : texts ≡ others = IsDictionary_unique values texts others (subst (λ vs. IsDictionary vs texts) is mine) h in
    subst (λ ts. AreCodes ts values codes) same (record { stand = is; bounded = bounded })

-- the value at a place is that of the code there
pub value_of_code : (texts : List (List ℕ)) (codes : List ℕ) (values : List (Option (List ℕ))) (row code : ℕ) → map (value_at texts) codes ≡ values → row < length codes → code ≡ get_or codes row code → get_or values row None ≡ value_at texts code
value_of_code texts codes values row code is h at =
    ap (λ vs. get_or vs row None) (sym is) ∙ get_or-map (value_at texts) codes row code None h ∙ ap (value_at texts) (sym at)

-- the text at a place, where its code is not that of null
pub text_found : (texts : List (List ℕ)) (codes : List ℕ) (values : List (Option (List ℕ))) (row code : ℕ) (text : List ℕ) → map (value_at texts) codes ≡ values → All (λ code. code ≤ length texts) codes → row < length codes → 1 ≤ code → code ≡ get_or codes row code
    → text ≡ get_or texts (code - 1) [] → Some text ≡ get_or values row None
text_found texts codes values row zero text is bounded h some at there = absurd (omega arith)
text_found texts codes values row (suc k) text is bounded h some at there =
    let most : suc k ≤ length texts = subst (λ c. c ≤ length texts) (sym at) (bounded row (suc k) h) in
    let less : k < length texts = omega arith in
    let here : text ≡ get_or texts k [] = simp unary_clauses at there in
    ap Some here ∙ sym (slice_get-get_or texts k [] less) ∙ sym (value_of_code texts codes values row (suc k) is h at)

pub code_inside : (texts : List (List ℕ)) (codes : List ℕ) (row code : ℕ) → All (λ code. code ≤ length texts) codes → row < length codes → 1 ≤ code → code ≡ get_or codes row code → code - 1 < length texts
code_inside texts codes row code bounded h some at =
    let most : code ≤ length texts = subst (λ c. c ≤ length texts) (sym at) (bounded row code h) in
    omega (arith, most, some)

-- a code of a row stands for its value
pub decoded : (texts : List (List ℕ)) (values : List (Option (List ℕ))) (codes : List ℕ) (row d : ℕ) → AreCodes texts values codes → row < length codes → value_at texts (get_or codes row d) ≡ get_or values row None
decoded texts values codes row d h within =
    sym (value_of_code texts codes values row (get_or codes row d) h.stand within (get_or_default codes row d (get_or codes row d) within))

-- as many codes as values
pub length_codes : (texts : List (List ℕ)) (values : List (Option (List ℕ))) (codes : List ℕ) → AreCodes texts values codes → length codes ≡ length values
length_codes texts values codes h = sym (length-map codes (value_at texts)) ∙ ap length h.stand

-- no text stands at two places
apart : (texts : List (List ℕ)) (a b : ℕ) → IsStrictlySortedBy text_cmp texts → b < length texts → get_or texts a [] ≡ get_or texts b [] → a < b → ⊥
apart texts a b sorted h same less =
    not_less (get_or texts a []) (get_or texts b []) (Less-from_sorted text_cmp texts a b [] sorted less h) same

no_null : (texts : List (List ℕ)) (a : ℕ) → suc a ≤ length texts → None ≡ slice_get texts a → ⊥
no_null texts a h same = subst (λ (v : Option (List ℕ)). T (is_none v)) (same ∙ slice_get-get_or texts a [] h) tt

-- equal values have one code
pub one_code : (values : List (Option (List ℕ))) (texts : List (List ℕ)) (a b : ℕ) → IsDictionary values texts → a ≤ length texts → b ≤ length texts → value_at texts a ≡ value_at texts b → a ≡ b
one_code values texts zero zero h ha hb same = refl
one_code values texts zero (suc b) h ha hb same = absurd (no_null texts b hb same)
one_code values texts (suc a) zero h ha hb same = absurd (no_null texts a ha (sym same))
one_code values texts (suc a) (suc b) h ha hb same =
    let here : Some (get_or texts a []) ≡ Some (get_or texts b []) = sym (slice_get-get_or texts a [] ha) ∙ same ∙ slice_get-get_or texts b [] hb in
    let text : get_or texts a [] ≡ get_or texts b [] = ap (λ v. unwrap_or v []) here in
    ⊎_elim (λ (eq : a ≡ b). ap suc eq) (λ either. ⊎_elim (λ (lt : a < b). absurd (apart texts a b h.rising hb text lt)) (λ (lt : b < a). absurd (apart texts b a h.rising ha (sym text) lt)) either) (cases_order a b)

-- there are only these codes of the same values
pub AreCodes_unique : (values : List (Option (List ℕ))) (texts : List (List ℕ)) (codes others : List ℕ) → IsDictionary values texts → AreCodes texts values codes → AreCodes texts values others → codes ≡ others
AreCodes_unique values texts codes others h a b =
    let same : length codes ≡ length others = length_codes texts values codes a ∙ sym (length_codes texts values others b) in
    same_lists codes others same (λ k d lt.
    let there : k < length others = omega (arith, same, lt) in
    one_code values texts (get_or codes k d) (get_or others k d) h (a.bounded k d lt) (b.bounded k d there) (decoded texts values codes k d a lt ∙ sym (decoded texts values others k d b there)))
