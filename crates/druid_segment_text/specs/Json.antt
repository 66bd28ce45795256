-- The JSON of a descriptor, and of a mark.
use Rattle.std.specs.Prelude.{◌≡◌, ◌==◌, ◌&&◌, ℕ, Bool, false, true, List, codes, Option, Some, None, Result, Ok, Err, IsOk, option_and_then, if◌then◌else◌}
use Rattle.std.specs.Str.{bytes_eq}
use Rattle.std.specs.Result.{result_ok}
use Rattle.serde_json.specs.Data.{Data, null, boolean, number, string, array, object, Members, member, no_members, unsigned}
use Rattle.serde_json.specs.Find.{get, as_object}
use Rattle.druid_base.specs.Fields.{text_at, limited_at, number_at}
use Rattle.druid_time.specs.Extent.{Extent}
use Rattle.druid_time.specs.Results.{◌>>=◌}
use Rattle.druid_time.specs.Texts.{extent_text, extent_at}
use Rattle.druid_segment_id.specs.Names.{is_name, is_version}
use Rattle.druid_segment_descriptor.specs.Described.{Described, Place, max_core}
use Rattle.druid_segment_descriptor.specs.Mark.{Point}
use Rattle.druid_segment_text.specs.declared.fault.ShardFault.{ShardFault}
use Rattle.druid_segment_text.specs.declared.fault.ShardFault.TheVariants as faults

-- ---- written

abbrev pub shard_data : ℕ → ℕ → Data
shard_data partition core =
    object (member (codes "partitionNum") (number (unsigned partition))
    (member (codes "partitions") (number (unsigned core))
    (member (codes "type") (string (codes "numbered")) no_members)))

-- what says that it is a tombstone, before the other members; an ordinary segment has no such key
abbrev pub flagged : Bool → Members → Members
flagged false others = others
flagged true others = member (codes "tombstone") (boolean true) others

-- a descriptor with this flag
unfoldable pub flagged_data : Bool → Described → Data
flagged_data flag d =
    object (member (codes "dataSource") (string d.id.source)
    (member (codes "interval") (string (extent_text d.id.interval))
    (member (codes "shardSpec") (shard_data d.id.partition d.core)
    (member (codes "size") (number (unsigned d.size))
    (flagged flag (member (codes "version") (string d.id.version) no_members))))))

abbrev pub descriptor_data : Described → Data
descriptor_data d = flagged_data d.tombstone d

-- a mark: `counter` is the count, and `hash` the incarnation
unfoldable pub mark_data : Point → Data
mark_data m =
    object (member (codes "counter") (number (unsigned m.count))
    (member (codes "hash") (number (unsigned m.incarnation)) no_members))

-- ---- read

-- why a value is no descriptor; a field goes by its key
pub data Refusal : Type 0 where
  other_type : Refusal
  bad_shard : Refusal
  bad_field : (key : List ℕ) → Refusal
  bad_tombstone : Refusal

-- the value, or else the refusal
abbrev pub or_refuse : {A : Type 0} → Option A → Refusal → Result A Refusal
or_refuse None e = Err e
or_refuse (Some x) e = Ok x

abbrev pub source_at : Data → Option (List ℕ)
source_at d = option_and_then (λ s. if is_name s then Some s else None) (text_at (codes "dataSource") d)

abbrev pub version_at : Data → Option (List ℕ)
version_at d = option_and_then (λ s. if is_version s then Some s else None) (text_at (codes "version") d)

abbrev pub interval_at : Data → Option Extent
interval_at d = option_and_then (λ s. result_ok (extent_at s)) (text_at (codes "interval") d)

-- a shard spec: an object, then its type, then its two numbers
unfoldable pub place_at : Data → Result Place Refusal
place_at d = do
  spec ← or_refuse (option_and_then (λ s. option_and_then (λ _. Some s) (as_object s)) (get (codes "shardSpec") d)) bad_shard
  kind ← or_refuse (option_and_then (λ t. if bytes_eq t (codes "numbered") then Some t else None) (text_at (codes "type") spec)) other_type
  partition ← or_refuse (limited_at 65_535 (codes "partitionNum") spec) bad_shard
  core ← or_refuse (limited_at max_core (codes "partitions") spec) bad_shard
  Ok (record { partition = partition; core = core })

-- whether a value says that it is a tombstone: null and false say no
abbrev pub flag_of : Data → Option Bool
flag_of null = Some false
flag_of (boolean b) = Some b
flag_of (number n) = None
flag_of (string s) = None
flag_of (array ds) = None
flag_of (object ms) = None

-- the same of the value at `tombstone`, where there is one
abbrev pub flag_at : Option Data → Option Bool
flag_at None = Some false
flag_at (Some d) = flag_of d

-- the whole of its chunk, in one partition of no size
abbrev pub is_whole_chunk : Described → Bool
is_whole_chunk d = d.id.partition == 0 && d.core == 1 && d.size == 0

-- the flag of a segment, which only a whole chunk may carry
abbrev pub tombstone_at : Described → Data → Option Bool
tombstone_at segment d = option_and_then
    (λ flag. if flag then (if is_whole_chunk segment then Some true else None) else Some false)
    (flag_at (get (codes "tombstone") d))

-- a descriptor but for its flag: the source, the interval, the version, the size, and last the shard spec
unfoldable pub segment_at : Data → Result Described Refusal
segment_at d = do
  source ← or_refuse (source_at d) (bad_field (codes "dataSource"))
  interval ← or_refuse (interval_at d) (bad_field (codes "interval"))
  version ← or_refuse (version_at d) (bad_field (codes "version"))
  size ← or_refuse (number_at (codes "size") d) (bad_field (codes "size"))
  place ← place_at d
  Ok (record {
    id = record { source = source; interval = interval; version = version; partition = place.partition };
    core = place.core;
    size = size;
    tombstone = false;
  })

-- a descriptor, the flag last
unfoldable pub descriptor_at : Data → Result Described Refusal
descriptor_at d = do
  segment ← segment_at d
  tombstone ← or_refuse (tombstone_at segment d) bad_tombstone
  Ok (record { id = segment.id; core = segment.core; size = segment.size; tombstone = tombstone })

-- the fault that tells a refusal
abbrev pub Reports : {A : Type 0} → ShardFault → Result A Refusal → Type 0
Reports faults.ShardType read = read ≡ Err other_type
Reports faults.BadShard read = read ≡ Err bad_shard
Reports (faults.BadField key) read = read ≡ Err (bad_field key.now)
Reports faults.BadTombstone read = read ≡ Err bad_tombstone
-- out of memory only where nothing else is refused
Reports faults.Memory read = IsOk read

-- what a function answered is what reading gives, unless memory was refused
abbrev pub Gives : {A : Type 0} → Result A ShardFault → Result A Refusal → Type 0
Gives (Ok x) read = read ≡ Ok x
Gives (Err e) read = Reports e read
