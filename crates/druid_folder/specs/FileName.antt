-- The names that files of a folder have.
use Rattle.std.specs.Prelude.{ℕ, Bool, not, ◌&&◌, ◌||◌, ◌==◌, List, [], codes, bytes_eq, IsTrue}
use Rattle.std.specs.List.{list_any}

-- not empty, neither `.` nor `..`, with no `/` and no NUL byte
abbrev pub is_file_name : List ℕ → Bool
is_file_name name =
    not (bytes_eq name []) && not (bytes_eq name (codes ".")) && not (bytes_eq name (codes ".."))
    && not (list_any (λ b. b == 47 || b == 0) name)

-- a file can have this name
abbrev pub IsFileName : List ℕ → Type 0
IsFileName name = IsTrue (is_file_name name)
