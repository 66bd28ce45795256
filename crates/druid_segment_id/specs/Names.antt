-- The texts of names and of versions. They are ASCII, and a text is its bytes.
use Rattle.std.specs.Prelude.{ℕ, ◌≤◌, Bool, ◌||◌, ◌&&◌, ◌==◌, not, nat_le, List, length, IsTrue, All}
use Rattle.std.specs.List.{list_all}
use Rattle.std.specs.Char.{is_ascii_alphanumeric, is_ascii_graphic}

-- a byte of a name: `A-Z a-z 0-9 _ - .`
abbrev pub is_name_byte : ℕ → Bool
is_name_byte b = is_ascii_alphanumeric b || b == 95 || b == 45 || b == 46

-- the most bytes of a name
abbrev pub max_name : ℕ
max_name = 100

-- the name of a data source: 1 to 100 such bytes
pub record IsName (text : List ℕ) : Type 0 where
  pub not_empty : 1 ≤ length text
  pub short : length text ≤ max_name
  pub bytes : All (λ b. IsTrue (is_name_byte b)) text

-- the test of the same
abbrev pub is_name : List ℕ → Bool
is_name text = nat_le 1 (length text) && nat_le (length text) max_name && list_all is_name_byte text

-- a byte of a version: printable, and none of `_` `/` `"` `\`
abbrev pub is_version_byte : ℕ → Bool
is_version_byte b = is_ascii_graphic b && not (b == 95 || b == 47 || b == 34 || b == 92)

-- the most bytes of a version
abbrev pub max_version : ℕ
max_version = 64

-- a version: 1 to 64 such bytes
pub record IsVersion (text : List ℕ) : Type 0 where
  pub not_empty : 1 ≤ length text
  pub short : length text ≤ max_version
  pub bytes : All (λ b. IsTrue (is_version_byte b)) text

-- the test of the same
abbrev pub is_version : List ℕ → Bool
is_version text = nat_le 1 (length text) && nat_le (length text) max_version && list_all is_version_byte text
