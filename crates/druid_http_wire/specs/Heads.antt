-- What the fields of a head say of the body.
use Rattle.std.specs.Prelude.{ℕ, Bool, ◌&&◌, nat_le, List, [], ◌∷◌, length, map, filter, codes, if◌then◌else◌}
use Rattle.std.specs.List.{list_all, list_any}
use Rattle.std.specs.Char.{is_ascii_digit}
use Rattle.std.specs.Str.{str_eq_ignore_ascii_case}
use Rattle.std.specs.Str.Parse.{digits_value}
use Rattle.druid_http_wire.specs.declared.length.Length.{Length}
use Rattle.druid_http_wire.specs.declared.length.Length.TheVariants.{Unsaid, Unclear, TooLong, Is}
use Rattle.druid_http_wire.specs.Limits.{max_body, max_digits}

-- a field: its name, and its value without the white space around it
abbrev pub NameAndValue : Type 0
NameAndValue = List ℕ × List ℕ

-- the case of letters is passed over
abbrev pub is_named : List ℕ → NameAndValue → Bool
is_named name field = str_eq_ignore_ascii_case field.0 name

-- the values of the fields of that name
abbrev pub values_of : List ℕ → List NameAndValue → List (List ℕ)
values_of name fields = map (λ field. field.1) (filter (is_named name) fields)

-- a length is decimal digits, one at least and no more than it may have
abbrev pub is_length : List ℕ → Bool
is_length text = nat_le 1 (length text) && nat_le (length text) max_digits && list_all is_ascii_digit text

abbrev pub length_value : List ℕ → Length
length_value text = if is_length text then (if nat_le (digits_value 10 text) max_body then Is (digits_value 10 text) else TooLong) else Unclear

-- what the values of `Content-Length` say: it may stand once
abbrev pub length_said : List (List ℕ) → Length
length_said [] = Unsaid
length_said (text ∷ []) = length_value text
length_said (text ∷ other ∷ more) = Unclear

abbrev pub length_in : List NameAndValue → Length
length_in fields = length_said (values_of (codes "content-length") fields)

-- the body is sent in another form than whole
abbrev pub is_coded : List NameAndValue → Bool
is_coded fields = list_any (is_named (codes "transfer-encoding")) fields
