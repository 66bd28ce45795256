-- The codes with which the text of a fault begins.
use Rattle.std.specs.Prelude.{ℕ, ◌-◌, ◌==◌, ◌&&◌, ◌||◌, nat_le, not, min, Bool, List, codes, length, take, drop, position, Option, Some, None, if◌then◌else◌}
use Rattle.std.specs.Str.{bytes_eq}

-- a byte that is no capital letter, digit, colon or blank
abbrev pub is_other : ℕ → Bool
is_other c = not ((nat_le 65 c && nat_le c 90) || (nat_le 48 c && nat_le c 57) || (c == 58) || (c == 32))

abbrev pub front_to : Option ℕ → List ℕ → List ℕ
front_to None text = text
front_to (Some n) text = take n text

-- without a colon and a blank at the end
abbrev pub trimmed : List ℕ → List ℕ
trimmed text = let n : ℕ = length text - min (length text) 2 in if bytes_eq (drop n text) (codes ": ") then take n text else text

-- what stands before the first byte that is of no code
abbrev pub code_in : List ℕ → List ℕ
code_in text = trimmed (front_to (position is_other text) text)
