-- How long the spelling of a segment is.
use Rattle.std.proofs.Common.{◌≡◌, ℕ, ℤ, ◌+◌, List, [], ◌∷◌, ◌++◌, map, length, Option, Some, None, refl, ap, ◌∙◌, arith}
use Rattle.std.specs.List.{flat_map, sum}
use Rattle.std.specs.Int.{w16, w32, w64, to_be_bytes}
use Rattle.std.proofs.lemmas.List.{length-append}
use Rattle.std.proofs.lemmas.List.Sums.{sum_by-cons}
use Rattle.druid_segment_descriptor.specs.Described.{Described}
use Rattle.druid_segment_rows.specs.Rows.{Schema, Row}
use Rattle.druid_segment_rows.specs.Segment.{Segment, text_value_length, number_value_length, row_length, names_length, head_length, text_length}
use Rattle.druid_segment_file.specs.ByteParts.{magic, instant, interval, short_text, names, descriptor, text_value, number_value, row, rows, spelling}

pub length_each : {A : Type 0} (spell : A → List ℕ) (len : A → ℕ) → ((x : A) → length (spell x) ≡ len x) → (xs : List A) → length (flat_map spell xs) ≡ sum (map len xs)
length_each spell len same [] = refl
length_each spell len same (x ∷ xs) =
    let joined = length-append (spell x) (flat_map spell xs) in
    let summed = sum_by-cons (λ (n : ℕ). n) (len x) (map len xs) in
    omega (arith, joined, summed, same x, length_each spell len same xs)

length_text_value : (value : Option (List ℕ)) → length (text_value value) ≡ text_value_length value
length_text_value None = refl
length_text_value (Some text) = omega arith

length_number_value : (value : Option ℤ) → length (number_value value) ≡ number_value_length value
length_number_value None = refl
length_number_value (Some n) = refl

length_three : (a b c : List ℕ) → length ((a ++ b) ++ c) ≡ length a + length b + length c
length_three a b c = omega (arith, length-append (a ++ b) c, length-append a b)

pub length_row : (v : Row) → length (row v) ≡ row_length v
length_row v =
    let joined = length_three (instant v.time) (flat_map text_value v.dimensions) (flat_map number_value v.metrics) in
    let texts = length_each text_value text_value_length length_text_value v.dimensions in
    let numbers = length_each number_value number_value_length length_number_value v.metrics in
    omega (arith, joined, texts, numbers)

pub length_names : (xs : List (List ℕ)) → length (names xs) ≡ names_length xs
length_names xs = omega (arith, length_each short_text (λ name. 1 + length name) (λ name. omega arith) xs)

length_rows : (all : List Row) → length (rows all) ≡ 4 + sum (map row_length all)
length_rows all = omega (arith, length-append (to_be_bytes w32 (length all)) (flat_map row all), length_each row row_length length_row all)

length_six : (a b c d e f : List ℕ) → length (((((a ++ b) ++ c) ++ d) ++ e) ++ f) ≡ length a + length b + length c + length d + length e + length f
length_six a b c d e f = omega (arith, length-append ((((a ++ b) ++ c) ++ d) ++ e) f, length-append (((a ++ b) ++ c) ++ d) e, length-append ((a ++ b) ++ c) d, length-append (a ++ b) c, length-append a b)

pub length_descriptor : (d : Described) → length (descriptor d) ≡ (1 + length d.id.source) + 16 + (1 + length d.id.version) + 4 + 8
length_descriptor d =
    length_six (short_text d.id.source) (interval d.id.interval) (short_text d.id.version) (to_be_bytes w16 d.id.partition) (to_be_bytes w16 d.core) (to_be_bytes w64 d.size) ∙ omega arith

pub length_five : (a b c d e : List ℕ) → length ((((a ++ b) ++ c) ++ d) ++ e) ≡ length a + length b + length c + length d + length e
length_five a b c d e = omega (arith, length-append (((a ++ b) ++ c) ++ d) e, length-append ((a ++ b) ++ c) d, length-append (a ++ b) c, length-append a b)

sum_five : (a b c d e b2 c2 d2 e2 : ℕ) → b ≡ b2 → c ≡ c2 → d ≡ d2 → e ≡ e2 → a + b + c + d + e ≡ a + b2 + c2 + d2 + e2
sum_five a b c d e b2 c2 d2 e2 p q r t = omega arith

pub length_spelling : (s : Segment) → length (spelling s) ≡ text_length s
length_spelling s =
    length_five magic (descriptor s.descriptor) (names s.fields.dimensions) (names s.fields.metrics) (rows s.rows)
    ∙ sum_five 4 _ _ _ _ _ _ _ _ (length_descriptor s.descriptor) (length_names s.fields.dimensions) (length_names s.fields.metrics) (length_rows s.rows)
    ∙ omega arith

four_fronts : (a m b t c f e n g : List ℕ) → a ≡ m ++ b → b ≡ t ++ c → c ≡ f ++ e → e ≡ n ++ g → length a ≡ length m + length t + length f + length n + length g
four_fronts a m b t c f e n g p q r s =
    omega (arith, ap length p, ap length q, ap length r, ap length s, length-append m b, length-append t c, length-append f e, length-append n g)

-- the head of a segment, with what follows it
pub length_head : (d : Described) (fields : Schema) (a b c e g number : List ℕ) → length number ≡ 4 → a ≡ magic ++ b → b ≡ descriptor d ++ c → c ≡ (names fields.dimensions ++ names fields.metrics) ++ e → e ≡ number ++ g → length a ≡ head_length d fields + length g
length_head d fields a b c e g number four p q r s =
    let whole = four_fronts a magic b (descriptor d) c (names fields.dimensions ++ names fields.metrics) e number g p q r s in
    let both = length-append (names fields.dimensions) (names fields.metrics) in
    omega (arith, whole, both, four, length_descriptor d, length_names fields.dimensions, length_names fields.metrics)
