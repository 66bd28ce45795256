-- The file that keeps a number over restarts.
use Rattle.std.specs.Prelude.{◌≡◌, ◌⊎◌, ℕ, ◌+◌, ◌-◌, ◌^◌, ◌<◌, ◌≤◌, List, ◌++◌, codes, Option, Some, None, Result, Ok, Err}
use Rattle.std.specs.Fmt.{decimal}
use Rattle.druid_folder.specs.Folder.{Content}
use Rattle.druid_folder.specs.declared.fault.StoreFault.{StoreFault}
use Rattle.druid_folder.specs.declared.fault.StoreFault.TheVariants.{Device, BadNumber, AtEnd, BadName, Memory}

-- the file that has the number
abbrev pub number_file : List ℕ
number_file = codes "incarnation"

-- the file that a number is written to first, which is never read
abbrev pub next_file : List ℕ
next_file = codes "incarnation.tmp"

-- the number in decimal digits, and a line feed
abbrev pub number_text : ℕ → List ℕ
number_text n = decimal n ++ codes "\n"

-- the file has this number; where there is no file, it is 0
abbrev pub HasNumber : Option (List ℕ) → ℕ → Type 0
HasNumber None n = n ≡ 0
HasNumber (Some bytes) n = (1 ≤ n) × (n < 2 ^ 64) × (bytes ≡ number_text n)

-- what the call answers of a file where neither the device nor memory fails: the number after the one that the file
-- has, or that the file has no number, or the last one
abbrev pub Answers : Option (List ℕ) → Result ℕ StoreFault → Type 0
Answers file (Ok n) = (before : ℕ) × HasNumber file before × (n ≡ before + 1) × (n < 2 ^ 64)
Answers file (Err BadNumber) = (n : ℕ) → HasNumber file n → ⊥
Answers file (Err AtEnd) = HasNumber file (2 ^ 64 - 1)
Answers file (Err BadName) = ⊥
Answers file (Err Device) = Unit {0}
Answers file (Err Memory) = Unit {0}

-- new has the number after the one that old has
abbrev pub IsNext : Option (List ℕ) → Option (List ℕ) → Type 0
IsNext old new = (n : ℕ) × HasNumber old n × (new ≡ Some (number_text (n + 1)))

-- new is the old file, or has the number after the one that it has
abbrev pub IsSameOrNext : Option (List ℕ) → Option (List ℕ) → Type 0
IsSameOrNext old new = (new ≡ old) ⊎ IsNext old new

-- the file that has the number is as a stop might have left it, or has the number after the one that was read
abbrev pub IsKeptOrNext : (Content → Type 0) → Option (List ℕ) → Content → Type 0
IsKeptOrNext left read c = ((d : Content) × left d × (c number_file ≡ d number_file)) ⊎ IsNext read (c number_file)
