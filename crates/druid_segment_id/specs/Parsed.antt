-- Identifiers read from texts, with the data source known. A text is its bytes.
use Rattle.std.specs.Prelude.{◌≡◌, ℕ, Bool, ◌&&◌, ◌==◌, List, length, take, drop, slice_index, codes, Option, Some, None, option_and_then, ok_or, Result, Ok, Err, IsOk, nat_lt, nat_le, if◌then◌else◌}
use Rattle.std.specs.Str.{bytes_eq}
use Rattle.std.specs.Result.{result_ok}
use Rattle.std.specs.List.{list_any, before_first, after_first}
use Rattle.druid_time.specs.Extent.{Extent}
use Rattle.druid_time.specs.Results.{◌>>=◌}
use Rattle.druid_time.specs.Texts.{instant_at}
use Rattle.druid_segment_id.specs.Names.{is_version}
use Rattle.druid_base.specs.Numbers.{number_at}
use Rattle.druid_segment_id.specs.Identifier.{Identifier}
use Rattle.druid_segment_id.specs.declared.fault.IdFault.{IdFault}
use Rattle.druid_segment_id.specs.declared.fault.IdFault.TheVariants as faults

-- why a text is no identifier of the source
pub data Refusal : Type 0 where
  other_source : Refusal
  bad_parts : Refusal
  bad_interval : Refusal
  bad_version : Refusal
  bad_partition : Refusal

-- the byte is `_`
abbrev pub is_underscore : ℕ → Bool
is_underscore b = b == 95

-- what follows a front
abbrev pub beyond : List ℕ → List ℕ → Option (List ℕ)
beyond front text = if bytes_eq (take (length front) text) front then Some (drop (length front) text) else None

-- what follows the source and `_`
unfoldable pub rest_at : List ℕ → List ℕ → Option (List ℕ)
rest_at source text = option_and_then (beyond (codes "_")) (beyond source text)

-- what follows the interval: each of the two instants takes 24 bytes, and `_` stands after each
unfoldable pub tail_at : List ℕ → Option (List ℕ)
tail_at rest =
    if nat_le 51 (length rest) && is_underscore (slice_index rest 24) && is_underscore (slice_index rest 49)
    then Some (drop 50 rest)
    else None

-- the instant in a text of 24 bytes: these name one in the printed form alone
abbrev pub printed_at : List ℕ → Option ℕ
printed_at text = result_ok (instant_at text)

-- the interval between the two instants
unfoldable pub interval_at : List ℕ → Option Extent
interval_at rest =
    option_and_then (λ start. option_and_then (λ end.
    if nat_lt start end then Some (record { start = start; end = end }) else None)
    (printed_at (take 24 (drop 25 rest)))) (printed_at (take 24 rest))

-- the version ends before the next `_`, or where the text ends
unfoldable pub version_at : List ℕ → Option (List ℕ)
version_at tail = if is_version (before_first is_underscore tail) then Some (before_first is_underscore tail) else None

-- the number of a partition, from 1 to 65,535, that prints as these digits
unfoldable pub partition_number : List ℕ → Option ℕ
partition_number digits = option_and_then (λ n. if nat_le 1 n && nat_lt n 65536 then Some n else None) (number_at digits)

-- the partition follows that `_`. Without one it is 0
unfoldable pub partition_at : List ℕ → Option ℕ
partition_at tail = if list_any is_underscore tail then partition_number (after_first is_underscore tail) else Some 0

-- the identifier that a text spells
unfoldable pub identifier_at : List ℕ → List ℕ → Result Identifier Refusal
identifier_at source text = do
  rest ← ok_or (rest_at source text) other_source
  tail ← ok_or (tail_at rest) bad_parts
  interval ← ok_or (interval_at rest) bad_interval
  version ← ok_or (version_at tail) bad_version
  partition ← ok_or (partition_at tail) bad_partition
  Ok (record { source = source; interval = interval; version = version; partition = partition })

-- the fault that tells a refusal
abbrev pub Reports : {A : Type 0} → IdFault → Result A Refusal → Type 0
Reports faults.OtherSource read = read ≡ Err other_source
Reports faults.BadParts read = read ≡ Err bad_parts
Reports faults.BadInterval read = read ≡ Err bad_interval
Reports faults.BadVersion read = read ≡ Err bad_version
Reports faults.BadPartition read = read ≡ Err bad_partition
Reports faults.BadName read = ⊥
-- out of memory only where nothing else is refused
Reports faults.Memory read = IsOk read

-- what a function answered is what reading gives, unless memory was refused
abbrev pub Gives : {A : Type 0} → Result A IdFault → Result A Refusal → Type 0
Gives (Ok x) read = read ≡ Ok x
Gives (Err e) read = Reports e read
