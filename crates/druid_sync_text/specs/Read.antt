-- Replies, read out of JSON.
use Rattle.std.specs.Prelude.{◌≡◌, ℕ, ◌<◌, ◌≤◌, ◌||◌, List, codes, length, nat_le, ⊤, IsUtf8, Bool, Option, Some, None, is_some, Result, Ok, Err, option_and_then, if◌then◌else◌}
use Rattle.std.specs.Str.{bytes_eq}
use Rattle.std.specs.Result.{result_ok}
use Rattle.serde_json.specs.Data.{Data, Items, no_items, item}
use Rattle.serde_json.specs.Find.{get, as_null, as_bool, as_array, as_str}
use Rattle.druid_base.specs.Json.{ReadsAs}
use Rattle.druid_base.specs.Options.{◌>>=◌}
use Rattle.druid_segment_descriptor.specs.Described.{Described}
use Rattle.druid_segment_descriptor.specs.Mark.{Point}
use Rattle.druid_segment_text.specs.Json.{descriptor_at}
use Rattle.druid_base.specs.Fields.{text_at, number_at, limited_at}
use Rattle.druid_segment_descriptor.specs.Reply.{max_segments, max_page, max_pages, max_changes, HaveOwnIdentifiers, IsAsFar, IsFull, IsPageOf}
use Rattle.druid_segment_descriptor.specs.ReplyBody.{IsSnapshotOf}
use Rattle.druid_segment_descriptor.specs.declared.change.Change.{Change}
use Rattle.druid_segment_descriptor.specs.declared.change.Change.TheVariants.{Load, Drop}
use Rattle.druid_segment_descriptor.specs.declared.change.Cause.{Cause}
use Rattle.druid_segment_descriptor.specs.declared.change.Cause.TheVariants.{OtherIncarnation, Ahead, TooOld}
use Rattle.druid_segment_descriptor.specs.declared.reply.Body.{Body}
use Rattle.druid_segment_descriptor.specs.declared.reply.Body.TheVariants.{Delta, Snapshot, Page, Reset}
use Rattle.druid_base.specs.Each.{each_of}
use Rattle.druid_sync_text.specs.declared.fault.SyncFault.{SyncFault}
use Rattle.druid_sync_text.specs.declared.fault.SyncFault.TheVariants as faults

-- a mark of an incarnation, which is at least 1
unfoldable pub mark_at : Data → Option Point
mark_at d = do
  count ← number_at (codes "counter") d
  incarnation ← number_at (codes "hash") d
  if nat_le 1 incarnation then Some (record { incarnation = incarnation; count = count }) else None

-- what the word tells of the segment
abbrev pub change_of : List ℕ → Described → Option Change
change_of action d =
    if bytes_eq action (codes "load") then Some (Load d)
    else (if bytes_eq action (codes "drop") then Some (Drop d) else None)

-- a change
unfoldable pub change_at : Data → Option Change
change_at d = do
  action ← text_at (codes "action") d
  segment ← result_ok (descriptor_at d)
  change_of action segment

-- a change that loads a segment
abbrev pub loaded : Change → Option Described
loaded (Load d) = Some d
loaded (Drop d) = None

abbrev pub load_at : Data → Option Described
load_at d = option_and_then loaded (change_at d)

abbrev pub cause_of : List ℕ → Option Cause
cause_of text =
    if bytes_eq text (codes "OtherIncarnation") then Some OtherIncarnation
    else (if bytes_eq text (codes "Ahead") then Some Ahead
    else (if bytes_eq text (codes "TooOld") then Some TooOld else None))

-- a cause of a reset
unfoldable pub cause_at : Data → Option Cause
cause_at d = do
  text ← as_str d
  cause_of text

-- what a value of one of the four forms says. Its changes and segments are as they stand there
pub data Form : Type 0 where
  followed : (from to : Point) (changes : List Change) → Form
  whole : (at : Point) (segments : List Described) → Form
  paged : (at : Point) (page of : ℕ) (segments : List Described) → Form
  begun_again : (cause : Cause) (at : Point) → Form

-- the form that a reply has
abbrev pub form_of : Body → Form
form_of (Delta from to changes) = followed from to changes
form_of (Snapshot at segments) = whole at segments
form_of (Page at page of segments) = paged at page of segments
form_of (Reset cause at) = begun_again cause at

-- the five fields of each reply
pub record Five : Type 0 where
  pub at : Point
  pub from : Data
  pub requests : Items
  pub cause : Data
  pub reset : Bool

-- each of the five is there, and the mark, the list and the flag are such
unfoldable pub five_at : Data → Option Five
five_at d = do
  at ← option_and_then mark_at (get (codes "counter") d)
  from ← get (codes "from") d
  requests ← option_and_then as_array (get (codes "requests") d)
  cause ← get (codes "resetCause") d
  reset ← option_and_then as_bool (get (codes "resetCounter") d)
  Some (record { at = at; from = from; requests = requests; cause = cause; reset = reset })

abbrev pub none_in : Items → Option ⊤
none_in no_items = Some tt
none_in (item d ds) = None

-- a reset starts from nothing, has no changes, and tells its cause
unfoldable pub reset_at : Five → Option Form
reset_at five = do
  _ ← as_null five.from
  _ ← none_in five.requests
  cause ← cause_at five.cause
  Some (begun_again cause five.at)

-- a snapshot has loads alone
unfoldable pub snapshot_at : Point → Items → Option Form
snapshot_at at requests = do
  segments ← each_of load_at requests
  Some (whole at segments)

-- a delta starts from a mark
unfoldable pub delta_at : Point → Data → Items → Option Form
delta_at at from requests = do
  start ← mark_at from
  changes ← each_of change_at requests
  Some (followed start at changes)

-- what is no reset has no cause, and is a snapshot where it starts from nothing
unfoldable pub changes_at : Five → Option Form
changes_at five = do
  _ ← as_null five.cause
  if is_some (as_null five.from) then snapshot_at five.at five.requests else delta_at five.at five.from five.requests

-- a page has loads alone
unfoldable pub page_at : Point → ℕ → ℕ → Items → Option Form
page_at at page of requests = do
  segments ← each_of load_at requests
  Some (paged at page of segments)

-- what tells one of the two numbers of a page tells both; it starts from nothing, and is no reset
unfoldable pub paged_at : Data → Five → Option Form
paged_at d five = do
  page ← limited_at 65_535 (codes "page") d
  of ← limited_at 65_535 (codes "pages") d
  _ ← as_null five.from
  _ ← as_null five.cause
  if five.reset then None else page_at five.at page of five.requests

-- whether one of the two numbers of a page is there
abbrev pub is_page_reply : Data → Bool
is_page_reply d = is_some (get (codes "page") d) || is_some (get (codes "pages") d)

-- the form of a value that tells no page
abbrev pub unpaged_at : Five → Option Form
unpaged_at five = if five.reset then reset_at five else changes_at five

-- the form of a value, if it has one
unfoldable pub form_at : Data → Option Form
form_at d = do
  five ← five_at d
  if is_page_reply d then paged_at d five else unpaged_at five

-- the answer to a delta: too long, then of another length than its marks say; memory is wanted where it is neither
abbrev pub IsDeltaRead : Point → Point → List Change → Result Body SyncFault → Type 0
IsDeltaRead from to changes (Ok body) = (body ≡ Delta from to changes) × (length changes ≤ max_changes) × IsAsFar from to (length changes)
IsDeltaRead from to changes (Err faults.TooMany) = max_changes < length changes
IsDeltaRead from to changes (Err faults.LengthOfDelta) = (length changes ≤ max_changes) × (IsAsFar from to (length changes) → ⊥)
IsDeltaRead from to changes (Err faults.Memory) = (length changes ≤ max_changes) × IsAsFar from to (length changes)
IsDeltaRead from to changes (Err other) = ⊥

-- the answer to a snapshot: too long; then which identifiers stand twice is seen once memory was found for them
abbrev pub IsSnapshotRead : Point → List Described → Result Body SyncFault → Type 0
IsSnapshotRead at segments (Ok body) = IsSnapshotOf at segments body
IsSnapshotRead at segments (Err faults.TooMany) = max_segments < length segments
IsSnapshotRead at segments (Err faults.DoubledSegment) = (length segments ≤ max_segments) × (HaveOwnIdentifiers segments → ⊥)
IsSnapshotRead at segments (Err faults.Memory) = length segments ≤ max_segments
IsSnapshotRead at segments (Err other) = ⊥

-- a page of so many may have that many segments
pub record MayBePage (page of count : ℕ) : Type 0 where
  pub several : 2 ≤ of
  pub not_many : of ≤ max_pages
  pub within : page < of
  pub full : IsFull page of count

-- the answer to a page: too long; then a bad page. That its identifiers rise is seen once memory was found for them, its
-- numbers and its count before
abbrev pub IsPageRead : Point → ℕ → ℕ → List Described → Result Body SyncFault → Type 0
IsPageRead at page of segments (Ok body) = (body ≡ Page at page of segments) × IsPageOf page of segments
IsPageRead at page of segments (Err faults.TooMany) = max_page < length segments
IsPageRead at page of segments (Err faults.BadPage) = (length segments ≤ max_page) × (IsPageOf page of segments → ⊥)
IsPageRead at page of segments (Err faults.Memory) = (length segments ≤ max_page) × MayBePage page of (length segments)
IsPageRead at page of segments (Err other) = ⊥

-- the answer to a value of that form, or of none
abbrev pub Answers : Option Form → Result Body SyncFault → Type 0
Answers None answer = answer ≡ Err faults.Shape
Answers (Some (followed from to changes)) answer = IsDeltaRead from to changes answer
Answers (Some (whole at segments)) answer = IsSnapshotRead at segments answer
Answers (Some (paged at page of segments)) answer = IsPageRead at page of segments answer
Answers (Some (begun_again cause at)) answer = answer ≡ Ok (Reset cause at)

-- reading a reply out of JSON answers so: the reply, or the first fault
abbrev pub IsRead : Data → Result Body SyncFault → Type 0
IsRead d answer = Answers (form_at d) answer

-- the same out of bytes, which may be no JSON; reading JSON may run out of memory at any byte of a text
abbrev pub IsReadOf : List ℕ → Result Body SyncFault → Type 0
IsReadOf bytes (Err faults.NotJson) = (d : Data) → ReadsAs bytes d → ⊥
IsReadOf bytes (Err faults.Memory) = IsUtf8 bytes
IsReadOf bytes answer = (d : Data) × ReadsAs bytes d × IsRead d answer
