-- The names of fields. They are ASCII, and a text is its bytes.
use Rattle.std.specs.Prelude.{ℕ, ◌≤◌, Bool, ◌||◌, ◌&&◌, ◌==◌, nat_le, List, length, IsTrue, All}
use Rattle.std.specs.List.{list_all}
use Rattle.std.specs.Char.{is_ascii_alphanumeric}

-- a byte of a field name: `A-Z a-z 0-9 _`
abbrev pub is_field_byte : ℕ → Bool
is_field_byte b = is_ascii_alphanumeric b || b == 95

-- the most bytes of a field name
abbrev pub max_field_name : ℕ
max_field_name = 100

-- the name of a dimension or a metric: 1 to 100 such bytes
pub record IsFieldName (text : List ℕ) : Type 0 where
  pub not_empty : 1 ≤ length text
  pub short : length text ≤ max_field_name
  pub bytes : All (λ b. IsTrue (is_field_byte b)) text

-- the test of the same
abbrev pub is_field_name : List ℕ → Bool
is_field_name text = nat_le 1 (length text) && nat_le (length text) max_field_name && list_all is_field_byte text
