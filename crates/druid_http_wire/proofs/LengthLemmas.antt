-- The length of a body, out of the fields of a head.
use Rattle.std.proofs.Common.{◌≡◌, ◌≢◌, ◌↔◌, ℕ, ◌+◌, ◌<◌, ◌≤◌, ◌^◌, Bool, true, false, ◌&&◌, ◌||◌, IsTrue, nat_le, List, [], ◌∷◌, ◌++◌, length, take, drop, map, filter, get_or, append-nil, codes, refl, sym, ap, subst, ◌∙◌, lit≤, arith, inl, inr, Result, Ok, Err}
use Rattle.std.specs.List.{list_all, list_any}
use Rattle.std.specs.Str.{IsUtf8, str_eq_ignore_ascii_case}
use Rattle.std.specs.Char.{is_ascii_digit, digit_value, to_ascii_lowercase}
use Rattle.std.specs.Str.Parse.{digits_value, IsNumeral, AllDigits, without_leading_plus}
use Rattle.std.proofs.lemmas.Bool.{cases_Bool, and_parts, false≢true, false_from_ne_true, leb-true}
use Rattle.std.proofs.lemmas.Bool.Decides.{nat_tests}
use Rattle.std.proofs.lemmas.Str.{IsUtf8-from_ascii}
use Rattle.std.proofs.lemmas.Str.Parse.{without_leading_plus_none}
use Rattle.std.proofs.lemmas.Int.Digits.{digits_value-lt}
use Rattle.std.proofs.lemmas.Fmt.{IsAscii-from_digits}
use Rattle.std.proofs.Math.Nat.{pow-le-pow_right}
use Rattle.std.proofs.lemmas.Slice.Eq.{bytes_eq-Decides}
use Rattle.std.proofs.lemmas.List.{take_more, get_or-map, map-append, take-append-drop, length-map}
use Rattle.std.proofs.lemmas.List.Elements.{filter-append}
use Rattle.std.proofs.lemmas.List.Folds.{list_any-append, list_any_at}
use Rattle.druid_http_wire.specs.Heads.{NameAndValue, is_named, values_of, is_length, length_value, length_said, length_in, is_coded}
use Rattle.druid_http_wire.specs.declared.length.Length.{Length}
use Rattle.druid_http_wire.specs.declared.length.Length.TheVariants.{Unsaid, Unclear, TooLong, Is}
use Rattle.druid_http_message.specs.declared.fault.WireFault.{WireFault}
use Rattle.druid_http_message.specs.declared.fault.WireFault.TheVariants.{NoLength}
use Rattle.druid_http_wire.specs.Messages.{length_or, body_length}
use Rattle.druid_http_wire.specs.Limits.{max_body, max_digits}

is_digit : (b : ℕ) → is_ascii_digit b ≡ true → (48 ≤ b) × (b ≤ 57)
is_digit b h = (grind (arith, nat_tests), grind (arith, nat_tests))

digit_small : (b : ℕ) → 48 ≤ b → b ≤ 57 → digit_value b < 10
digit_small b low high = grind (arith, nat_tests)

digits : (text : List ℕ) → list_all is_ascii_digit text ≡ true → AllDigits 10 text
digits [] all = tt
digits (b ∷ more) all =
    let parts = and_parts _ _ all in
    let range = is_digit b parts.0 in
    (digit_small b range.0 range.1, digits more parts.1)

plain : (text : List ℕ) → list_all is_ascii_digit text ≡ true → get_or text 0 0 ≢ 43
plain [] all e = absurd (omega (arith, e))
plain (b ∷ more) all e = omega (arith, e, (is_digit b (and_parts _ _ all).0).0)

pub length_numeral : (text : List ℕ) → is_length text ≡ true
    → IsNumeral 10 (without_leading_plus text) × (digits_value 10 (without_leading_plus text) < 2 ^ 128) × (without_leading_plus text ≡ text)
length_numeral text is =
    let outer = and_parts (nat_le 1 (length text) && nat_le (length text) max_digits) (list_all is_ascii_digit text) is in
    let inner = and_parts (nat_le 1 (length text)) (nat_le (length text) max_digits) outer.0 in
    let all = digits text outer.1 in
    let same = without_leading_plus_none text (plain text outer.1) in
    let few : 10 ^ length text ≤ 10 ^ max_digits = pow-le-pow_right (lit≤ tt) (leb-true (length text) max_digits inner.1) in
    let low = digits_value-lt 10 text all in
    subst (λ (t : List ℕ). IsNumeral 10 t × (digits_value 10 t < 2 ^ 128) × (t ≡ text)) (sym same)
    ((leb-true 1 (length text) inner.0, all), omega (arith, few, low), refl)

pub length_text : (text : List ℕ) → is_length text ≡ true → IsUtf8 text
length_text text is =
    IsUtf8-from_ascii text (IsAscii-from_digits text
    (digits text (and_parts (nat_le 1 (length text) && nat_le (length text) max_digits) (list_all is_ascii_digit text) is).1))

-- ---- fields one by one

pub same_name : (b : Bool) (x y : List ℕ) → IsTrue b ↔ (map to_ascii_lowercase x ≡ map to_ascii_lowercase y) → b ≡ str_eq_ignore_ascii_case x y
same_name true x y same = sym ((bytes_eq-Decides (map to_ascii_lowercase x) (map to_ascii_lowercase y)).1 (same.0 refl))
same_name false x y same =
    sym (false_from_ne_true _ (λ e. false≢true (same.1 ((bytes_eq-Decides (map to_ascii_lowercase x) (map to_ascii_lowercase y)).0 e))))

pub coded_here : {X : Type 0} (h : X → NameAndValue) (xs : List X) (i : ℕ) (d : X) → i < length xs
    → is_named (codes "transfer-encoding") (h (get_or xs i d)) ≡ true → is_coded (map h xs) ≡ true
coded_here {X} h xs i d lt here =
    list_any_at (is_named (codes "transfer-encoding")) (map h xs) i (h d) (omega (arith, lt, length-map xs h))
    (ap (is_named (codes "transfer-encoding")) (get_or-map h xs i d (h d) lt) ∙ here)

pub uncoded : {X : Type 0} (h : X → NameAndValue) (xs : List X) (i : ℕ) (d : X) → i < length xs → is_coded (map h (take i xs)) ≡ false
    → is_named (codes "transfer-encoding") (h (get_or xs i d)) ≡ false → is_coded (map h (take (i + 1) xs)) ≡ false
uncoded {X} h xs i d lt before other =
    ap (λ l. is_coded (map h l)) (take_more xs i d lt) ∙ ap is_coded (map-append h (take i xs) (get_or xs i d ∷ []))
    ∙ list_any-append (is_named (codes "transfer-encoding")) (map h (take i xs)) (h (get_or xs i d) ∷ [])
    ∙ ap (λ b. b || list_any (is_named (codes "transfer-encoding")) (h (get_or xs i d) ∷ [])) before
    ∙ ap (λ b. b || false) other

abbrev lengths : List NameAndValue → List (List ℕ)
lengths fields = values_of (codes "content-length") fields

lengths-append : (xs ys : List NameAndValue) → lengths (xs ++ ys) ≡ lengths xs ++ lengths ys
lengths-append xs ys =
    ap (map (λ (f : NameAndValue). f.1)) (filter-append (is_named (codes "content-length")) xs ys)
    ∙ map-append (λ (f : NameAndValue). f.1) (filter (is_named (codes "content-length")) xs) (filter (is_named (codes "content-length")) ys)

lengths_one : (f : NameAndValue) → is_named (codes "content-length") f ≡ true → lengths (f ∷ []) ≡ f.1 ∷ []
lengths_one f e = rw e refl

lengths_none : (f : NameAndValue) → is_named (codes "content-length") f ≡ false → lengths (f ∷ []) ≡ []
lengths_none f e = rw e refl

more_lengths : {X : Type 0} (h : X → NameAndValue) (xs : List X) (i : ℕ) (d : X) → i < length xs
    → lengths (map h (take (i + 1) xs)) ≡ lengths (map h (take i xs)) ++ lengths (h (get_or xs i d) ∷ [])
more_lengths {X} h xs i d lt =
    ap (λ l. lengths (map h l)) (take_more xs i d lt) ∙ ap lengths (map-append h (take i xs) (get_or xs i d ∷ []))
    ∙ lengths-append (map h (take i xs)) (h (get_or xs i d) ∷ [])

all_lengths : {X : Type 0} (h : X → NameAndValue) (xs : List X) (i : ℕ)
    → lengths (map h xs) ≡ lengths (map h (take i xs)) ++ lengths (map h (drop i xs))
all_lengths {X} h xs i =
    ap (λ l. lengths (map h l)) (sym (take-append-drop i xs)) ∙ ap lengths (map-append h (take i xs) (drop i xs))
    ∙ lengths-append (map h (take i xs)) (map h (drop i xs))

value_some : (text : List ℕ) → length_value text ≡ Unsaid → ⊥
value_some text e =
    elim (cases_Bool (is_length text)) [
      | inl good ↦
          elim (cases_Bool (nat_le (digits_value 10 text) max_body)) [
            | inl low ↦ let f = rw (good, low) at e in absurd cc
            | inr high ↦ let f = rw (good, high) at e in absurd cc
          ]
      | inr bad ↦ let f = rw bad at e in absurd cc
    ]

said_once : (vs : List (List ℕ)) (v : List ℕ) → length_said vs ≡ Unsaid → length_said (vs ++ v ∷ []) ≡ length_value v
said_once [] v e = refl
said_once (x ∷ []) v e = absurd (value_some x e)
said_once (x ∷ y ∷ more) v e = absurd cc

said_twice : (vs : List (List ℕ)) (v : List ℕ) (more : List (List ℕ)) → (length_said vs ≡ Unsaid → ⊥) → length_said ((vs ++ v ∷ []) ++ more) ≡ Unclear
said_twice [] v more e = absurd (e refl)
said_twice (x ∷ []) v more e = refl
said_twice (x ∷ y ∷ rest) v more e = refl

pub length_passed : {X : Type 0} (h : X → NameAndValue) (xs : List X) (i : ℕ) (d : X) → i < length xs
    → is_named (codes "content-length") (h (get_or xs i d)) ≡ false → length_in (map h (take (i + 1) xs)) ≡ length_in (map h (take i xs))
length_passed {X} h xs i d lt other =
    ap length_said (more_lengths h xs i d lt ∙ ap (λ l. lengths (map h (take i xs)) ++ l) (lengths_none (h (get_or xs i d)) other) ∙ append-nil (lengths (map h (take i xs))))

pub length_here : {X : Type 0} (h : X → NameAndValue) (xs : List X) (i : ℕ) (d : X) → i < length xs
    → is_named (codes "content-length") (h (get_or xs i d)) ≡ true → length_in (map h (take i xs)) ≡ Unsaid
    → length_in (map h (take (i + 1) xs)) ≡ length_value ((h (get_or xs i d)).1)
length_here {X} h xs i d lt here before =
    ap length_said (more_lengths h xs i d lt ∙ ap (λ l. lengths (map h (take i xs)) ++ l) (lengths_one (h (get_or xs i d)) here))
    ∙ said_once (lengths (map h (take i xs))) ((h (get_or xs i d)).1) before

pub length_again : {X : Type 0} (h : X → NameAndValue) (xs : List X) (i : ℕ) (d : X) → i < length xs
    → is_named (codes "content-length") (h (get_or xs i d)) ≡ true → (length_in (map h (take i xs)) ≡ Unsaid → ⊥)
    → length_in (map h xs) ≡ Unclear
length_again {X} h xs i d lt here before =
    ap length_said (all_lengths h xs (i + 1)
    ∙ ap (λ l. l ++ lengths (map h (drop (i + 1) xs))) (more_lengths h xs i d lt ∙ ap (λ l. lengths (map h (take i xs)) ++ l) (lengths_one (h (get_or xs i d)) here)))
    ∙ said_twice (lengths (map h (take i xs))) ((h (get_or xs i d)).1) (lengths (map h (drop (i + 1) xs))) before

-- ---- a body is within its limit

value_within : (text : List ℕ) (n : ℕ) → length_value text ≡ Is n → n ≤ max_body
value_within text n e = within (is_length text) (nat_le (digits_value 10 text) max_body) refl refl
  where
    within : (a b : Bool) → is_length text ≡ a → nat_le (digits_value 10 text) max_body ≡ b → n ≤ max_body
    within true true p q =
        let same : ◌≡◌ {A = Length} (Is (digits_value 10 text)) (Is n) = sym (rw p (rw q refl)) ∙ e in
        let value : digits_value 10 text ≡ n = cc in
        subst (λ (m : ℕ). m ≤ max_body) value (leb-true (digits_value 10 text) max_body q)
    within true false p q =
        let same : ◌≡◌ {A = Length} TooLong (Is n) = sym (rw p (rw q refl)) ∙ e in
        absurd cc
    within false b p q =
        let same : ◌≡◌ {A = Length} Unclear (Is n) = sym (rw p refl) ∙ e in
        absurd cc

said_within : (texts : List (List ℕ)) (n : ℕ) → length_said texts ≡ Is n → n ≤ max_body
said_within [] n e = absurd cc
said_within (text ∷ []) n e = value_within text n e
said_within (text ∷ other ∷ more) n e = absurd cc

length_within : (needed : Bool) (said : Length) (n : ℕ) → ((m : ℕ) → said ≡ Is m → m ≤ max_body) → length_or needed said ≡ Ok n → n ≤ max_body
length_within true Unsaid n low e = absurd cc
length_within false Unsaid n low e = let value : 0 ≡ n = cc in omega (arith, value)
length_within needed Unclear n low e = absurd cc
length_within needed TooLong n low e = absurd cc
length_within needed (Is m) n low e = let value : m ≡ n = cc in low n (ap Is value)

pub body_within : (needed : Bool) (fields : List NameAndValue) (n : ℕ) → body_length needed fields ≡ Ok n → n ≤ max_body
body_within needed fields n e = coded (is_coded fields) refl
  where
    coded : (b : Bool) → is_coded fields ≡ b → n ≤ max_body
    coded true c =
        let none : ◌≡◌ {A = Result ℕ WireFault} (Err NoLength) (Ok n) = sym (rw c refl) ∙ e in
        absurd cc
    coded false c =
        length_within needed (length_in fields) n (said_within (values_of (codes "content-length") fields)) (sym (rw c refl) ∙ e)
