-- Filters and values, one after another.
use Rattle.std.proofs.Common.{◌≡◌, ℕ, ◌+◌, ◌<◌, ◌≤◌, inl, inr, List, [], ◌∷◌, length, get_or, drop, false, Option, None, String, Global, string_bytes, drop_of_length-le, arith, refl, sym, ap, ◌∙◌}
use Rattle.std.specs.Str.{bytes_eq}
use Rattle.std.proofs.lemmas.List.{drop_more}
use Rattle.std.proofs.lemmas.Bool.{cases_lt}
use Rattle.druid_filter.specs.Filters.{value_in}
use Rattle.druid_segment_rows.specs.Rows.{texts_of, nullable_texts_of}

value_of_none : (names : List (List ℕ)) (name : List ℕ) → value_in names [] name ≡ None
value_of_none [] name = refl
value_of_none (n ∷ names) name = refl

-- the name at a place is another one
pub value_later : (names : List (String Global)) (values : List (Option (String Global))) (name : List ℕ) (i : ℕ) (n : String Global) → i < length names → n ≡ get_or names i n
    → bytes_eq (string_bytes n) name ≡ false
    → value_in (texts_of (drop (i + 1) names)) (nullable_texts_of (drop (i + 1) values)) name ≡ value_in (texts_of (drop i names)) (nullable_texts_of (drop i values)) name
value_later names values name i n h is other =
    let first : bytes_eq (string_bytes (get_or names i n)) name ≡ false = ap (λ m. bytes_eq (string_bytes m) name) (sym is) ∙ other in
    elim (cases_lt i (length values)) [
      | inl lt ↦ rw (drop_more names i n h, drop_more values i None lt, first) refl
      | inr ge ↦
          let now = drop_of_length-le values ge in
          let later : length values ≤ i + 1 = omega (arith, ge) in
          let then = drop_of_length-le values later in
          rw (drop_more names i n h, now, then) (value_of_none (texts_of (drop (i + 1) names)) name)
    ]
