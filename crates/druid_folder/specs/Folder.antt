-- What a folder has, what its calls do to it, and what a stop may leave of it: a loss of power, or the end of the
-- process, at any moment.
use Rattle.std.specs.Prelude.{◌≡◌, ◌⊎◌, ℕ, ◌+◌, ◌-◌, ◌^◌, ◌≤◌, min, ◌↔◌, All, Contains, IsSome, List, map, take, Option, None, Result, Ok, Err, Vec, string_bytes, bytes_eq, if◌then◌else◌}
use Rattle.std.specs.Option.{option_map}
use Rattle.std.specs.Ordering.{nat_cmp}
use Rattle.std.specs.Cmp.Lexicographic.{slice_cmp}
use Rattle.std.specs.List.Sorted.{IsStrictlySortedBy}
use Rattle.std.specs.declared.alloc.Global.{Global}
use Rattle.std.specs.declared.string.String.{String}
use Rattle.druid_folder.specs.FileName.{IsFileName}
use Rattle.druid_folder.specs.declared.fault.StoreFault.{StoreFault}
use Rattle.druid_folder.specs.declared.fault.StoreFault.TheVariants.{Device, BadNumber, AtEnd, BadName, Memory}

-- the bytes of the file of each name, and None where there is no such file
abbrev pub Content : Type 0
Content = List ℕ → Option (List ℕ)

-- a folder without files
abbrev pub nothing : Content
nothing name = None

-- the same files, but for the one of this name, which is as given
abbrev pub with_file : Content → List ℕ → Option (List ℕ) → Content
with_file files name file other = if bytes_eq other name then file else files other

-- the same files without the one of this name
abbrev pub without : List ℕ → Content → Content
without name files = with_file files name None

-- the file of one name has another, in the place of the file of that one
abbrev pub renamed : List ℕ → List ℕ → Content → Content
renamed from to files = with_file (without from files) to (files from)

-- all the files are as before, but for the one of this name, which has any bytes or is not there
abbrev pub Torn : List ℕ → Content → Content → Type 0
Torn name old new = (file : Option (List ℕ)) × (new ≡ with_file old name file)

-- it was done or it was not
abbrev pub DoneOrNot : (Content → Content) → Content → Content → Type 0
DoneOrNot work old new = (new ≡ old) ⊎ (new ≡ work old)

-- each content that a stop may leave afterwards is one that it might have left before, after this step
abbrev pub Follows : (Content → Content → Type 0) → (Content → Type 0) → (Content → Type 0) → Type 0
Follows step old new = (c : Content) → new c → (d : Content) × old d × step d c

-- a stop leaves this and nothing else
abbrev pub Only : Content → (Content → Type 0) → Type 0
Only files left = (c : Content) → left c → c ≡ files

-- a stop may leave the same
abbrev pub SameLeft : (Content → Type 0) → (Content → Type 0) → Type 0
SameLeft old new = ((c : Content) → old c → new c) × ((c : Content) → new c → old c)

-- Time goes on: a stop since t might have left what it might have left before, or what it may leave now.
pub record Elapses (before now : ℕ) (past since : ℕ → Content → Type 0) (may_leave : Content → Type 0) : Type 0 where
  pub later : before ≤ now
  pub nothing_else : (t : ℕ) (c : Content) → t ≤ before → since t c → past t c ⊎ may_leave c
  pub keeps : (t : ℕ) (c : Content) → t ≤ before → past t c → since t c

-- a stop at any moment since old leaves what has P
pub record LeavesOnly {F : Type 0} (moment : F → ℕ) (left_since : F → ℕ → Content → Type 0) (old new : F) (P : Content → Type 0) : Type 0 where
  pub later : moment old ≤ moment new
  pub each : (c : Content) → left_since new (moment old) c → P c
  -- for a run that began earlier
  pub before : (t : ℕ) (c : Content) → t ≤ moment old → left_since new t c → left_since old t c ⊎ P c

-- the most bytes that a file is to have
abbrev pub max_file : ℕ
max_file = 16777216

-- what a read gives of a file: all of it, or one byte more than a file is to have
unfoldable pub read_part : Option (List ℕ) → Option (List ℕ)
read_part file = option_map (take (max_file + 1)) file

-- the bytes that a read gave
abbrev pub bytes_read : Option (Vec ℕ Global) → Option (List ℕ)
bytes_read found = option_map (λ v. v.items) found

-- the names that a list gave
abbrev pub names_of : List (String Global) → List (List ℕ)
names_of names = map string_bytes names

-- names in the order of their bytes, each once
abbrev pub AreInOrder : List (List ℕ) → Type 0
AreInOrder names = IsStrictlySortedBy (slice_cmp nat_cmp) names

-- these are the names of the files, and names that a file can have
pub record AreNames (files : Content) (names : List (List ℕ)) : Type 0 where
  pub valid : All IsFileName names
  pub each : (name : List ℕ) → Contains names name ↔ IsSome (files name)

-- how often the device has failed after a fault: a failure counts, up to 2 ^ 64 - 1
abbrev pub faults_at : StoreFault → ℕ → ℕ
faults_at Device n = min (n + 1) (2 ^ 64 - 1)
faults_at BadNumber n = n
faults_at AtEnd n = n
faults_at BadName n = n
faults_at Memory n = n

-- and after an answer
abbrev pub faults_after : {T : Type 0} → Result T StoreFault → ℕ → ℕ
faults_after (Ok x) n = n
faults_after (Err e) n = faults_at e n

-- the fault is the device's or out of memory
abbrev pub IsOwnFault : StoreFault → Type 0
IsOwnFault Device = Unit {0}
IsOwnFault BadNumber = ⊥
IsOwnFault AtEnd = ⊥
IsOwnFault BadName = ⊥
IsOwnFault Memory = Unit {0}
