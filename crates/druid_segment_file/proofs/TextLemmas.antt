-- Texts of ASCII bytes are UTF-8.
use Rattle.std.proofs.Common.{◌≡◌, ℕ, ◌<◌, ◌≤◌, Bool, true, false, ◌&&◌, List, length, leb, arith, refl}
use Rattle.std.specs.Prelude.{IsTrue, All}
use Rattle.std.specs.List.{list_all}
use Rattle.std.proofs.lemmas.List.Elements.{All-weaker}
use Rattle.std.proofs.lemmas.List.Sums.{AllPass-from_list_all, list_all-from_AllPass}
use Rattle.std.specs.Str.{IsUtf8, is_utf8}
use Rattle.std.proofs.lemmas.Bool.{and_parts, false_from_ne_true, leb-true, le-leb}
use Rattle.std.proofs.lemmas.Bool.Decides.{nat_tests}
use Rattle.std.proofs.lemmas.Str.Ascii.{IsAscii-from_all}
use Rattle.std.proofs.lemmas.Str.{IsUtf8-from_ascii, IsUtf8-from_is_utf8, is_utf8-from_IsUtf8}
use Rattle.druid_segment_id.specs.Names.{is_name_byte, is_name, IsName, is_version_byte, is_version, IsVersion}
use Rattle.druid_segment_id.proofs.NameLemmas.{is_name-true, is_name-to, is_version-true, is_version-to}
use Rattle.druid_segment_rows.specs.Names.{is_field_byte, is_field_name, IsFieldName}

name_byte_low : (b : ℕ) → is_name_byte b ≡ true → b < 128
name_byte_low b h = grind (arith, nat_tests)

version_byte_low : (b : ℕ) → is_version_byte b ≡ true → b < 128
version_byte_low b h = grind (arith, nat_tests)

field_byte_low : (b : ℕ) → is_field_byte b ≡ true → b < 128
field_byte_low b h = grind (arith, nat_tests)

-- a text of tested bytes that are all ASCII
ascii_utf8 : (test : ℕ → Bool) → ((b : ℕ) → test b ≡ true → b < 128) → (text : List ℕ) → All (λ b. IsTrue (test b)) text → IsUtf8 text
ascii_utf8 test low text h = IsUtf8-from_ascii text (IsAscii-from_all text (All-weaker (λ b. IsTrue (test b)) (λ b. b < 128) low text h))

-- ---- what the tests of names and versions tell

tested : (limit : ℕ) (test : ℕ → Bool) (text : List ℕ) → (leb 1 (length text) && leb (length text) limit && list_all test text) ≡ true → (1 ≤ length text) × (length text ≤ limit) × All (λ b. IsTrue (test b)) text
tested limit test text h =
    let each = and_parts (leb 1 (length text) && leb (length text) limit) (list_all test text) h in
    let len = and_parts (leb 1 (length text)) (leb (length text) limit) each.0 in
    (leb-true 1 (length text) len.0, leb-true (length text) limit len.1, AllPass-from_list_all test text each.1)

pub is_field_name-is : (text : List ℕ) → is_field_name text ≡ true → IsFieldName text
is_field_name-is text h =
    let t = tested 100 is_field_byte text h in
    record { not_empty = t.0; short = t.1; bytes = t.2 }

pub is_field_name-true : (text : List ℕ) → IsFieldName text → is_field_name text ≡ true
is_field_name-true text h =
    let low = le-leb 1 (length text) h.not_empty in
    let high = le-leb (length text) 100 h.short in
    let each = list_all-from_AllPass is_field_byte text h.bytes in
    rw (low, high, each) refl

-- ---- what is refused, and what is taken

pub no_name : (text : List ℕ) → ¬ (IsUtf8 text) → is_name text ≡ false
no_name text not = false_from_ne_true (is_name text) (λ e. not (ascii_utf8 is_name_byte name_byte_low text (is_name-to text e).bytes))

pub no_version : (text : List ℕ) → ¬ (IsUtf8 text) → is_version text ≡ false
no_version text not = false_from_ne_true (is_version text) (λ e. not (ascii_utf8 is_version_byte version_byte_low text (is_version-to text e).bytes))

pub no_field_name : (text : List ℕ) → ¬ (IsUtf8 text) → is_field_name text ≡ false
no_field_name text not = false_from_ne_true (is_field_name text) (λ e. not (ascii_utf8 is_field_byte field_byte_low text (is_field_name-is text e).bytes))

pub not_utf8 : (text : List ℕ) → ¬ (IsUtf8 text) → is_utf8 text ≡ false
not_utf8 text not = false_from_ne_true (is_utf8 text) (λ e. not (IsUtf8-from_is_utf8 text e))

pub utf8_true : (text : List ℕ) → IsUtf8 text → is_utf8 text ≡ true
utf8_true text h = is_utf8-from_IsUtf8 text h

pub refused_name : (text : List ℕ) → ¬ (IsName text) → is_name text ≡ false
refused_name text not = false_from_ne_true (is_name text) (λ e. not (is_name-to text e))

pub refused_version : (text : List ℕ) → ¬ (IsVersion text) → is_version text ≡ false
refused_version text not = false_from_ne_true (is_version text) (λ e. not (is_version-to text e))

-- for the attribute `using`, which takes no name with a hyphen
pub taken_name : (text : List ℕ) → IsName text → is_name text ≡ true
taken_name = is_name-true

pub taken_version : (text : List ℕ) → IsVersion text → is_version text ≡ true
taken_version = is_version-true
