-- Files that were refused.
use Rattle.std.specs.Prelude.{◌≡◌, ℕ, List, [], ◌∷◌, map, string_bytes, Option, Some, None, if◌then◌else◌}
use Rattle.std.specs.Str.{bytes_eq}
use Rattle.std.specs.declared.alloc.Global.{Global}
use Rattle.std.specs.declared.string.String.{String}

pub record Refused : Type 0 where
  pub name : List ℕ
  pub code : List ℕ

-- the code with which the file of that name was refused last
abbrev pub code_of : List Refused → List ℕ → Option (List ℕ)
code_of [] name = None
code_of (f ∷ files) name = if bytes_eq name f.name then Some f.code else code_of files name

-- of that name is noted this, and of each other what was
abbrev pub Notes : List ℕ → Option (List ℕ) → List Refused → List Refused → Type 0
Notes name code old new = (other : List ℕ) → code_of new other ≡ (if bytes_eq name other then code else code_of old other)

-- how they are kept
abbrev pub file_of : String Global × String Global → Refused
file_of e = record { name = string_bytes e.0; code = string_bytes e.1 }

abbrev pub files_of : List (String Global × String Global) → List Refused
files_of entries = map file_of entries
