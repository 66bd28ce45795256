-- Numbers in decimal digits, as a head has them.
use Rattle.std.proofs.Common.{◌≡◌, ℕ, ◌+◌, ◌/◌, ◌%◌, ◌<◌, ◌≤◌, ◌^◌, Bool, true, false, IsTrue, ◌&&◌, ◌==◌, nat_le, List, [], ◌∷◌, ◌++◌, length, reverse, decimal, refl, sym, ap, ◌∙◌, arith}
use Rattle.std.specs.List.{list_all}
use Rattle.std.specs.Char.{is_ascii_digit}
use Rattle.std.specs.Str.Parse.{AllDigits, digits_value}
use Rattle.std.proofs.lemmas.Bool.{and_from, or_from, ne_eqb, le-leb}
use Rattle.std.proofs.lemmas.Bool.Decides.{nat_tests}
use Rattle.std.proofs.lemmas.List.Elements.{All-nil, All-cons, All-head, All-tail}
use Rattle.std.proofs.lemmas.Str.Parse.{digit_from_value}
use Rattle.std.proofs.lemmas.Fmt.{decimal_is_IsNumeral, decimal_digit, decimal_step, length-decimal-le}
use Rattle.http.specs.StatusCode.{code_digits}
use Rattle.httparse.specs.Grammar.{AllPass, is_ows, is_value_byte, skip_ows, trim_ows}
use Rattle.httparse.proofs.TrimLemmas.{skip_ows_no, trim_ows_space, AllPass-reverse}
use Rattle.druid_http_wire.specs.Heads.{is_length, length_value}
use Rattle.druid_http_wire.specs.declared.length.Length.TheVariants.{Is}
use Rattle.druid_http_wire.specs.Limits.{max_body, max_digits}

digit_passes : (c : ℕ) → 48 ≤ c → c ≤ 57 → is_ascii_digit c ≡ true
digit_passes c low high = grind (arith, nat_tests)

digit_is : (c : ℕ) → is_ascii_digit c ≡ true → (48 ≤ c) × (c ≤ 57)
digit_is c h = (grind (arith, nat_tests), grind (arith, nat_tests))

digits_pass : (ds : List ℕ) → AllDigits 10 ds → AllPass is_ascii_digit ds
digits_pass [] all = All-nil (λ b. IsTrue (is_ascii_digit b))
digits_pass (c ∷ cs) all =
    let range = digit_from_value c all.0 in
    All-cons (λ b. IsTrue (is_ascii_digit b)) c cs (digit_passes c range.0 range.1) (digits_pass cs all.1)

tested : (test : ℕ → Bool) (bytes : List ℕ) → AllPass test bytes → list_all test bytes ≡ true
tested test [] all = refl
tested test (c ∷ cs) all =
    and_from (test c) (list_all test cs) (All-head (λ b. IsTrue (test b)) c cs all) (tested test cs (All-tail (λ b. IsTrue (test b)) c cs all))

-- ---- the digits of a number

pub decimal_digits : (n : ℕ) → n < 2 ^ 64 → AllPass is_ascii_digit (decimal n)
decimal_digits n low = digits_pass (decimal n) (decimal_is_IsNumeral n low).0.1

value_byte : (c : ℕ) → is_ascii_digit c ≡ true → is_value_byte c ≡ true
value_byte c h = let range = digit_is c h in grind (arith, nat_tests, range.0, range.1)

not_blank : (c : ℕ) → is_ascii_digit c ≡ true → is_ows c ≡ false
not_blank c h =
    let range = digit_is c h in
    or_from (c == 32) (c == 9) (ne_eqb c 32 (λ e. omega (arith, range.0, e))) (ne_eqb c 9 (λ e. omega (arith, range.0, e)))

digits_stay : (ds : List ℕ) → AllPass is_ascii_digit ds → skip_ows ds ≡ ds
digits_stay [] all = refl
digits_stay (c ∷ cs) all = skip_ows_no {b = c} {all = c ∷ cs} {rest = cs} refl (sym (not_blank c (All-head (λ b. IsTrue (is_ascii_digit b)) c cs all)))

-- as the value of a field they follow a space
pub decimal_trimmed : (n : ℕ) → n < 2 ^ 64 → trim_ows (32 ∷ decimal n) ≡ decimal n
decimal_trimmed n low =
    let digits = decimal_digits n low in
    trim_ows_space (decimal n) (digits_stay (decimal n) digits) (digits_stay (reverse (decimal n)) (AllPass-reverse is_ascii_digit (decimal n) digits))

values : (ds : List ℕ) → AllPass is_ascii_digit ds → AllPass is_value_byte ds
values [] all = All-nil (λ b. IsTrue (is_value_byte b))
values (c ∷ cs) all =
    All-cons (λ b. IsTrue (is_value_byte b)) c cs (value_byte c (All-head (λ b. IsTrue (is_ascii_digit b)) c cs all))
    (values cs (All-tail (λ b. IsTrue (is_ascii_digit b)) c cs all))

pub decimal_values : (n : ℕ) → n < 2 ^ 64 → AllPass is_value_byte (32 ∷ decimal n)
decimal_values n low = All-cons (λ b. IsTrue (is_value_byte b)) 32 (decimal n) refl (values (decimal n) (decimal_digits n low))

-- ---- lengths

pub short_decimal : (n : ℕ) → n ≤ max_body → length (decimal n) ≤ 8
short_decimal n low = length-decimal-le 8 n (omega arith) (omega arith) (omega arith)

pub length_value_again : (n : ℕ) → n ≤ max_body → length_value (decimal n) ≡ Is n
length_value_again n low =
    let numeral = decimal_is_IsNumeral n (omega arith) in
    let short = short_decimal n low in
    let all : is_length (decimal n) ≡ true =
    and_from (nat_le 1 (length (decimal n)) && nat_le (length (decimal n)) max_digits) (list_all is_ascii_digit (decimal n))
    (and_from (nat_le 1 (length (decimal n))) (nat_le (length (decimal n)) max_digits) (le-leb 1 (length (decimal n)) (omega (arith, numeral.0.0)))
    (le-leb (length (decimal n)) max_digits (omega (arith, short)))) (tested is_ascii_digit (decimal n) (digits_pass (decimal n) numeral.0.1)) in
    let fits : nat_le (digits_value 10 (decimal n)) max_body ≡ true = ap (λ (k : ℕ). nat_le k max_body) numeral.1 ∙ le-leb n max_body low in
    rw (all, fits) (ap Is numeral.1)

-- ---- statuses

pub decimal_code : (n : ℕ) → 100 ≤ n → n < 1000 → decimal n ≡ code_digits n
decimal_code n low high =
    let hundreds : n / 10 / 10 ≡ n / 100 = omega arith in
    decimal_step n (omega arith) (omega arith)
    ∙ ap (λ (l : List ℕ). l ++ (48 + n % 10) ∷ []) (decimal_step (n / 10) (omega arith) (omega arith)
    ∙ ap (λ (l : List ℕ). l ++ (48 + n / 10 % 10) ∷ []) (decimal_digit (n / 10 / 10) (omega arith) ∙ ap (λ (k : ℕ). (48 + k) ∷ []) hundreds))
