-- Numbers in decimal digits.
use Rattle.std.proofs.Common.{◌≡◌, ◌≢◌, ℕ, ◌<◌, ◌^◌, ◌&&◌, nat_lt, List, [], ◌∷◌, get_or, refl, sym, ap, ◌∙◌, subst, arith, inl, inr, decimal, Some, None}
use Rattle.std.specs.Str.{IsUtf8, bytes_eq}
use Rattle.std.specs.Char.{digit_value}
use Rattle.std.specs.Str.Parse.{digits_value, IsNumeral, without_leading_plus}
use Rattle.std.proofs.lemmas.Bool.{cases_Bool, and_parts, lt-ltb, ltb-true, false_from_ne_true}
use Rattle.std.proofs.lemmas.Fmt.{decimal_is_IsNumeral, IsAscii-decimal}
use Rattle.std.proofs.lemmas.Option.{same_Some}
use Rattle.std.proofs.lemmas.Slice.Eq.{bytes_eq-Decides}
use Rattle.std.proofs.lemmas.Str.{IsUtf8-from_ascii}
use Rattle.std.proofs.lemmas.Str.Parse.{without_leading_plus_none}
use Rattle.druid_base.specs.Numbers.{number_at}

-- a number in digits begins with no `+`
plain_numeral : (ds : List ℕ) → IsNumeral 10 ds → get_or ds 0 0 ≢ 43
plain_numeral [] h e = absurd (omega (arith, h.0))
plain_numeral (d ∷ ds) h e = let small : digit_value 43 < 10 = subst (λ x. digit_value x < 10) e h.1.0 in absurd (omega arith)

-- a number is read of the digits that it prints as
read_decimal : (digits : List ℕ) (n : ℕ) → n < 2 ^ 64 → decimal n ≡ digits
    → IsNumeral 10 (without_leading_plus digits) × (digits_value 10 (without_leading_plus digits) ≡ n)
read_decimal digits n high e =
    let numeral = decimal_is_IsNumeral n (omega (arith, high)) in
    let plain = without_leading_plus_none (decimal n) (plain_numeral (decimal n) numeral.0) in
    subst (λ ds. IsNumeral 10 ds × (digits_value 10 ds ≡ n)) (sym plain ∙ ap without_leading_plus e) numeral

pub number_at-found : (digits : List ℕ) (n : ℕ) → n < 2 ^ 64 → decimal n ≡ digits → number_at digits ≡ Some n
unfolding number_at
number_at-found digits n high e =
    let value : digits_value 10 digits ≡ n = ap (digits_value 10) (sym e) ∙ (decimal_is_IsNumeral n (omega (arith, high))).1 in
    rw (value, lt-ltb n (2 ^ 64) high, (bytes_eq-Decides digits (decimal n)).1 (sym e)) refl

pub number_at-none : (digits : List ℕ) → ((n : ℕ) → n < 2 ^ 64 → decimal n ≡ digits → ⊥) → number_at digits ≡ None
unfolding number_at
number_at-none digits none =
    let n = digits_value 10 digits in
    let failing = false_from_ne_true _ (λ all.
    let parts = and_parts _ _ all in
    none n (ltb-true n (2 ^ 64) parts.0) (sym ((bytes_eq-Decides digits (decimal n)).0 parts.1))) in
    rw failing refl

-- what is found prints as the digits
pub number_at-to : (digits : List ℕ) (n : ℕ) → number_at digits ≡ Some n → (n < 2 ^ 64) × (digits ≡ decimal n)
unfolding number_at
number_at-to digits n h =
    let m = digits_value 10 digits in
    elim (cases_Bool (nat_lt m (2 ^ 64) && bytes_eq digits (decimal m))) [
      | inl pass ↦
          let same : m ≡ n = same_Some _ _ (rw pass at h) in
          let parts = and_parts _ _ pass in
          subst (λ k. (k < 2 ^ 64) × (digits ≡ decimal k)) same (ltb-true m (2 ^ 64) parts.0, (bytes_eq-Decides digits (decimal m)).0 parts.1)
      | inr fail ↦ let none = rw fail at h in absurd (cc)
    ]

-- no number was read
pub number_at-unread : (digits : List ℕ) → ¬ (IsNumeral 10 (without_leading_plus digits) × (digits_value 10 (without_leading_plus digits) < 2 ^ 64)) → number_at digits ≡ None
number_at-unread digits bad =
    number_at-none digits (λ n high e.
    let read = read_decimal digits n high e in
    bad (read.0, subst (λ m. m < 2 ^ 64) (sym read.1) high))

-- one was read, and it prints as other digits
pub number_at-odd : (digits : List ℕ) (m : ℕ) → m ≡ digits_value 10 (without_leading_plus digits) → (decimal m ≡ digits → ⊥) → number_at digits ≡ None
number_at-odd digits m is odd =
    number_at-none digits (λ n high e.
    let same : n ≡ m = sym (is ∙ (read_decimal digits n high e).1) in
    odd (ap decimal (sym same) ∙ e))

-- bytes that are no text are no number
pub number_at-not_utf8 : (digits : List ℕ) → ¬ IsUtf8 digits → number_at digits ≡ None
number_at-not_utf8 digits bad =
    number_at-none digits (λ n high e. bad (subst IsUtf8 e (IsUtf8-from_ascii (decimal n) (IsAscii-decimal n (omega (arith, high))))))

pub ruleset number_facts = (number_at-unread)

pub ruleset text_facts = (number_at-not_utf8)
