-- Partials, read out of JSON.
use Rattle.std.specs.Prelude.{◌≡◌, ℕ, ℤ, pos, negsuc, ◌+ℤ◌, List, nat_lt, All, Option, Some, None, is_some, option_map, option_and_then, if◌then◌else◌, Result, Ok, Err}
use Rattle.std.specs.List.Sorted.{IsPermutation}
use Rattle.serde_json.specs.Data.{Data, Items, no_items, item}
use Rattle.serde_json.specs.Find.{as_null, as_array, as_number, as_i64}
use Rattle.druid_base.specs.Options.{◌>>=◌}
use Rattle.druid_time.specs.Instant.{instant_count, unix_epoch}
use Rattle.druid_query.specs.Query.{Query}
use Rattle.druid_base.specs.Each.{each_of}
use Rattle.druid_base.specs.Fields.{text_or_null}
use Rattle.druid_partial.specs.Groups.{Group, InOrder}
use Rattle.druid_partial.specs.Partials.{Partial, IsGroupFor, kinds_of}
use Rattle.druid_partial_text.specs.declared.fault.PartialFault.{PartialFault}
use Rattle.druid_partial_text.specs.declared.fault.PartialFault.TheVariants as faults

-- a whole number of 64 bits
abbrev pub integer_at : Data → Option ℤ
integer_at d = option_and_then as_i64 (as_number d)

-- the same, or null
unfoldable pub number_or_null : Data → Option (Option ℤ)
number_or_null d = if is_some (as_null d) then Some None else option_map Some (integer_at d)

-- the instant that is so many milliseconds after the year 0, of the years 0000 to 9999
abbrev pub instant_beyond : ℤ → Option ℕ
instant_beyond (pos t) = if nat_lt t instant_count then Some t else None
instant_beyond (negsuc n) = None

-- the instant that is so many milliseconds after 1970-01-01T00:00:00.000Z
unfoldable pub instant_of : ℤ → Option ℕ
instant_of ms = instant_beyond (ms +ℤ pos unix_epoch)

-- the three items of a list of three
pub record Three : Type 0 where
  pub first : Data
  pub second : Data
  pub third : Data

abbrev pub three_of : Items → Option Three
three_of no_items = None
three_of (item a no_items) = None
three_of (item a (item b no_items)) = None
three_of (item a (item b (item c no_items))) = Some (record { first = a; second = b; third = c })
three_of (item a (item b (item c (item d more)))) = None

-- what stands in a row
pub record Parts : Type 0 where
  pub bucket : ℕ
  pub values : Items
  pub numbers : Items

-- a list of an instant, a list and a list
unfoldable pub parts_at : Data → Option Parts
parts_at d = do
  three ← option_and_then three_of (as_array d)
  ms ← integer_at three.first
  bucket ← instant_of ms
  values ← as_array three.second
  numbers ← as_array three.third
  Some (record { bucket = bucket; values = values; numbers = numbers })

-- each value is a text or null, and each number a whole number of 64 bits or null
unfoldable pub group_of : Parts → Option Group
group_of parts = do
  values ← each_of text_or_null parts.values
  numbers ← each_of number_or_null parts.numbers
  Some (record { key = record { bucket = parts.bucket; values = values }; numbers = numbers })

-- the group that a row tells
abbrev pub group_at : Data → Option Group
group_at d = option_and_then group_of (parts_at d)

-- the groups of a list of rows, as they stand there
abbrev pub groups_at : Data → Option (List Group)
groups_at d = option_and_then (each_of group_at) (as_array d)

-- a value lists these groups, each of them one for the query
pub record Lists (query : Query) (d : Data) (rows : List Group) : Type 0 where
  pub read : groups_at d ≡ Some rows
  pub each : All (IsGroupFor query) rows

-- a value tells these groups: it lists them in any order, and no key twice
pub record ReportsGroups (query : Query) (d : Data) (groups : List Group) : Type 0 where
  pub rows : List Group
  pub listed : Lists query d rows
  pub same : IsPermutation rows groups
  pub ordered : InOrder groups

-- what reading a partial of a query answers: its groups; P2 where the value tells none. Whether a key stands twice shows
-- once the groups are in order, and they have to be copied for that
abbrev pub IsRead : Query → Data → Result Partial PartialFault → Type 0
IsRead query d (Ok p) = (p.kinds ≡ kinds_of query) × ReportsGroups query d p.groups
IsRead query d (Err faults.Shape) = (groups : List Group) → ReportsGroups query d groups → ⊥
IsRead query d (Err faults.Memory) = (rows : List Group) × Lists query d rows
IsRead query d (Err faults.NotJson) = ⊥
