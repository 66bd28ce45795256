-- The text of a reply.
use Rattle.std.specs.Prelude.{◌<◌, ◌^◌, ℕ, Bool, List, [], ◌++◌, codes, map, decimal, Option, Some, None, is_some, Contains, ⊤}
use Rattle.serde_json.specs.Data.{Data, Members, null, boolean, object, member, no_members, array, number, unsigned, string}
use Rattle.serde_json.specs.View.{items_of}
use Rattle.serde_json.specs.Written.{compact_text}
use Rattle.druid_time.specs.Texts.{extent_text}
use Rattle.druid_segment_descriptor.specs.Mark.{Point, IsWord}
use Rattle.druid_segment_descriptor.specs.Described.{Described, IsDescribed}
use Rattle.druid_segment_text.specs.Json.{shard_data, flagged, mark_data}
use Rattle.druid_segment_descriptor.specs.declared.change.Change.{Change}
use Rattle.druid_segment_descriptor.specs.declared.change.Change.TheVariants.{Load, Drop}
use Rattle.druid_segment_descriptor.specs.declared.change.Cause.{Cause}
use Rattle.druid_segment_descriptor.specs.declared.change.Cause.TheVariants.{OtherIncarnation, Ahead, TooOld}
use Rattle.druid_segment_descriptor.specs.declared.reply.Body.{Body}
use Rattle.druid_segment_descriptor.specs.declared.reply.Body.TheVariants.{Delta, Snapshot, Page, Reset}

-- the word that tells what a change does
abbrev pub action_of : Change → List ℕ
action_of (Load d) = codes "load"
action_of (Drop d) = codes "drop"

-- the segment that a change loads or drops
abbrev pub segment_of : Change → Described
segment_of (Load d) = d
segment_of (Drop d) = d

-- a change of a segment with this flag: the keys of the descriptor, and `action`
unfoldable pub flagged_request : Bool → List ℕ → Described → Data
flagged_request flag action d =
    object (member (codes "action") (string action)
    (member (codes "dataSource") (string d.id.source)
    (member (codes "interval") (string (extent_text d.id.interval))
    (member (codes "shardSpec") (shard_data d.id.partition d.core)
    (member (codes "size") (number (unsigned d.size))
    (flagged flag (member (codes "version") (string d.id.version) no_members)))))))

abbrev pub request_data : List ℕ → Described → Data
request_data action d = flagged_request d.tombstone action d

abbrev pub change_data : Change → Data
change_data c = request_data (action_of c) (segment_of c)

abbrev pub load_data : Described → Data
load_data d = change_data (Load d)

abbrev pub cause_text : Cause → List ℕ
cause_text OtherIncarnation = codes "OtherIncarnation"
cause_text Ahead = codes "Ahead"
cause_text TooOld = codes "TooOld"

-- where a reply starts from: a mark, or nothing
abbrev pub from_data : Option Point → Data
from_data None = null
from_data (Some m) = mark_data m

-- what a reply tells of a reset, if it is one
abbrev pub cause_data : Option Cause → Data
cause_data None = null
cause_data (Some cause) = string (cause_text cause)

-- which page it is and how many there are, before the other members; what is no page has no such keys
abbrev pub numbered : Option (ℕ × ℕ) → Members → Members
numbered None others = others
numbered (Some (page, of)) others =
    member (codes "page") (number (unsigned page))
    (member (codes "pages") (number (unsigned of)) others)

-- the five fields of each reply, and the numbers of a page
abbrev pub five_fields : Point → Option Point → Option (ℕ × ℕ) → List Data → Option Cause → Data
five_fields counter from numbers requests cause =
    object (member (codes "counter") (mark_data counter)
    (member (codes "from") (from_data from)
    (numbered numbers (member (codes "requests") (array (items_of requests))
    (member (codes "resetCause") (cause_data cause)
    (member (codes "resetCounter") (boolean (is_some cause)) no_members))))))

-- a reply: a delta has its changes, a snapshot and a page a load for each segment, and a reset its cause
unfoldable pub reply_data : Body → Data
reply_data (Delta from to changes) = five_fields to (Some from) None (map change_data changes) None
reply_data (Snapshot at segments) = five_fields at None None (map load_data segments) None
reply_data (Page at page of segments) = five_fields at None (Some (page, of)) (map load_data segments) None
reply_data (Reset cause at) = five_fields at None None [] (Some cause)

-- the text of a reply: its JSON, compact, with the keys in the order of their bytes
abbrev pub reply_text : Body → List ℕ
reply_text body = compact_text (reply_data body)

-- the text of the numbers of a page
abbrev pub numbers_text : Option (ℕ × ℕ) → List ℕ
numbers_text None = []
numbers_text (Some (page, of)) = codes ",\"page\":" ++ (decimal page ++ (codes ",\"pages\":" ++ decimal of))

-- the text of a reply up to its changes, and from after them on
unfoldable pub front_text : Point → Option Point → Option (ℕ × ℕ) → List ℕ
front_text counter from numbers =
    codes "{\"counter\":" ++ (compact_text (mark_data counter)
    ++ (codes ",\"from\":" ++ (compact_text (from_data from) ++ (numbers_text numbers ++ codes ",\"requests\":"))))

unfoldable pub back_text : Option Cause → List ℕ
back_text cause =
    codes ",\"resetCause\":" ++ (compact_text (cause_data cause)
    ++ (codes ",\"resetCounter\":" ++ (compact_text (boolean (is_some cause)) ++ codes "}")))

-- each segment of a reply is a node's
abbrev pub IsOfDescriptors : Body → Type 0
IsOfDescriptors (Delta from to changes) = (c : Change) → Contains changes c → IsDescribed (segment_of c)
IsOfDescriptors (Snapshot at segments) = (d : Described) → Contains segments d → IsDescribed d
IsOfDescriptors (Page at page of segments) = (d : Described) → Contains segments d → IsDescribed d
IsOfDescriptors (Reset cause at) = ⊤

-- the numbers of each mark of a reply fit 64 bits, and so do those of a page
abbrev pub IsOfWords : Body → Type 0
IsOfWords (Delta from to changes) = IsWord from × IsWord to
IsOfWords (Snapshot at segments) = IsWord at
IsOfWords (Page at page of segments) = IsWord at × (page < 2 ^ 64) × (of < 2 ^ 64)
IsOfWords (Reset cause at) = IsWord at
