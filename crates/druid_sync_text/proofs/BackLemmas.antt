-- Replies as JSON: what is written is read back.
use Rattle.std.proofs.Common.{◌≡◌, ◌<◌, ◌≤◌, ℕ, Bool, false, true, List, [], map, codes, Contains, Option, Some, None, Ok, refl, arith, le-leb, is_some}
use Rattle.serde_json.specs.Data.{Data}
use Rattle.serde_json.specs.View.{items_of}
use Rattle.druid_time.proofs.TextLemmas.{extent_at-extent_text}
use Rattle.druid_segment_id.proofs.NameLemmas.{is_name-true, is_version-true}
use Rattle.druid_segment_descriptor.specs.Mark.{Point}
use Rattle.druid_base.proofs.EachLemmas.{each_back}
use Rattle.druid_segment_descriptor.specs.Described.{Described, IsDescribed, IsWholeChunk}
use Rattle.druid_segment_text.specs.Json.{mark_data, descriptor_at, segment_at, place_at, tombstone_at}
use Rattle.druid_base.specs.Fields.{text_at}
use Rattle.druid_segment_descriptor.specs.declared.change.Change.{Change}
use Rattle.druid_segment_descriptor.specs.declared.change.Change.TheVariants.{Load, Drop}
use Rattle.druid_segment_descriptor.specs.declared.change.Cause.{Cause}
use Rattle.druid_segment_descriptor.specs.declared.change.Cause.TheVariants.{OtherIncarnation, Ahead, TooOld}
use Rattle.serde_json.specs.Find.{as_null}
use Rattle.druid_segment_descriptor.specs.declared.reply.Body.TheVariants.{Delta, Snapshot, Page, Reset}
use Rattle.druid_sync_text.specs.Written.{from_data, flagged_request, request_data, change_data, load_data, segment_of, cause_data, five_fields, reply_data}
use Rattle.druid_sync_text.specs.Read.{mark_at, change_at, load_at, cause_at, five_at, followed, whole, paged, begun_again, reset_at, snapshot_at, delta_at, changes_at, page_at, paged_at, form_at}

-- ---- marks

pub mark_at-data : (m : Point) → 1 ≤ m.incarnation → mark_at (mark_data m) ≡ Some m
unfolding mark_at mark_data
mark_at-data m h = let first = le-leb 1 m.incarnation h in rw first refl

-- ---- changes

-- the segment but for its flag
abbrev unflagged : Described → Described
unflagged d = record { id = d.id; core = d.core; size = d.size; tombstone = false }

partition_small : (p : ℕ) → p < 65_536 → p ≤ 65_535
partition_small p h = omega arith

place_at-request : (flag : Bool) (action : List ℕ) (d : Described) → IsDescribed d → place_at (flagged_request flag action d) ≡ Ok (record { partition = d.id.partition; core = d.core })
unfolding place_at flagged_request
place_at-request false action d h =
    let low = le-leb d.id.partition 65_535 (partition_small d.id.partition h.id.partition) in
    let high = le-leb d.core 32_768 h.core in
    rw (low, high) refl
place_at-request true action d h =
    let low = le-leb d.id.partition 65_535 (partition_small d.id.partition h.id.partition) in
    let high = le-leb d.core 32_768 h.core in
    rw (low, high) refl

segment_at-request : (flag : Bool) (action : List ℕ) (d : Described) → IsDescribed d → segment_at (flagged_request flag action d) ≡ Ok (unflagged d)
unfolding segment_at flagged_request
segment_at-request false action d h =
    let source = is_name-true d.id.source h.id.source in
    let version = is_version-true d.id.version h.id.version in
    let interval = extent_at-extent_text d.id.interval h.id.interval in
    let place = place_at-request false action d h in
    rw (source, interval, version) (rw place refl)
segment_at-request true action d h =
    let source = is_name-true d.id.source h.id.source in
    let version = is_version-true d.id.version h.id.version in
    let interval = extent_at-extent_text d.id.interval h.id.interval in
    let place = place_at-request true action d h in
    rw (source, interval, version) (rw place refl)

tombstone_at-request : (flag : Bool) (action : List ℕ) (d : Described) → (flag ≡ true → IsWholeChunk d) → tombstone_at (unflagged d) (flagged_request flag action d) ≡ Some flag
unfolding flagged_request
tombstone_at-request false action d h = refl
tombstone_at-request true action d h =
    let whole = h refl in
    rw (whole.0, whole.1, whole.2) refl

descriptor_at-request : (action : List ℕ) (d : Described) → IsDescribed d → descriptor_at (request_data action d) ≡ Ok d
unfolding descriptor_at
descriptor_at-request action d h =
    let segment = segment_at-request d.tombstone action d h in
    let flag = tombstone_at-request d.tombstone action d h.tombstone in
    rw segment (rw flag refl)

action_at : (flag : Bool) (action : List ℕ) (d : Described) → text_at (codes "action") (flagged_request flag action d) ≡ Some action
unfolding flagged_request
action_at false action d = refl
action_at true action d = refl

pub change_at-data : (c : Change) → IsDescribed (segment_of c) → change_at (change_data c) ≡ Some c
unfolding change_at
change_at-data (Load d) h =
    let action = action_at d.tombstone (codes "load") d in
    let read = descriptor_at-request (codes "load") d h in rw action (rw read refl)
change_at-data (Drop d) h =
    let action = action_at d.tombstone (codes "drop") d in
    let read = descriptor_at-request (codes "drop") d h in rw action (rw read refl)

pub load_at-data : (d : Described) → IsDescribed d → load_at (load_data d) ≡ Some d
load_at-data d h = let read = change_at-data (Load d) h in rw read refl

-- ---- causes

cause_at-data : (cause : Cause) → cause_at (cause_data (Some cause)) ≡ Some cause
unfolding cause_at
cause_at-data OtherIncarnation = refl
cause_at-data Ahead = refl
cause_at-data TooOld = refl

-- ---- replies

five_at-data : (counter : Point) (from : Option Point) (numbers : Option (ℕ × ℕ)) (requests : List Data) (cause : Option Cause) → 1 ≤ counter.incarnation
    → five_at (five_fields counter from numbers requests cause)
    ≡ Some (record { at = counter; from = from_data from; requests = items_of requests; cause = cause_data cause; reset = is_some cause })
unfolding five_at
five_at-data counter from None requests cause h = let read = mark_at-data counter h in rw read refl
five_at-data counter from (Some (page, of)) requests cause h = let read = mark_at-data counter h in rw read refl

mark_is_no_null : (m : Point) → as_null (mark_data m) ≡ None
unfolding mark_data
mark_is_no_null m = refl

pub delta_back : (from to : Point) (changes : List Change) → 1 ≤ from.incarnation → 1 ≤ to.incarnation → ((c : Change) → Contains changes c → IsDescribed (segment_of c))
    → form_at (reply_data (Delta from to changes)) ≡ Some (followed from to changes)
unfolding reply_data form_at changes_at delta_at
delta_back from to changes h k valid =
    let five = five_at-data to (Some from) None (map change_data changes) None k in
    let mark = mark_at-data from h in
    let each = each_back change_data change_at changes (λ c in_it. change_at-data c (valid c in_it)) in
    rw five (rw (mark_is_no_null from) (rw mark (rw each refl)))

pub snapshot_back : (at : Point) (segments : List Described) → 1 ≤ at.incarnation → ((d : Described) → Contains segments d → IsDescribed d)
    → form_at (reply_data (Snapshot at segments)) ≡ Some (whole at segments)
unfolding reply_data form_at changes_at snapshot_at
snapshot_back at segments h valid =
    let five = five_at-data at None None (map load_data segments) None h in
    let each = each_back load_data load_at segments (λ d in_it. load_at-data d (valid d in_it)) in
    rw five (rw each refl)

pub page_back : (at : Point) (page of : ℕ) (segments : List Described) → 1 ≤ at.incarnation → page ≤ 65_535 → of ≤ 65_535 → ((d : Described) → Contains segments d → IsDescribed d)
    → form_at (reply_data (Page at page of segments)) ≡ Some (paged at page of segments)
unfolding reply_data form_at paged_at page_at
page_back at page of segments h low few valid =
    let five = five_at-data at None (Some (page, of)) (map load_data segments) None h in
    let which = le-leb page 65_535 low in
    let many = le-leb of 65_535 few in
    let each = each_back load_data load_at segments (λ d in_it. load_at-data d (valid d in_it)) in
    rw five (rw (which, many) (rw each refl))

pub reset_back : (cause : Cause) (at : Point) → 1 ≤ at.incarnation → form_at (reply_data (Reset cause at)) ≡ Some (begun_again cause at)
unfolding reply_data form_at reset_at
reset_back cause at h =
    let five = five_at-data at None None [] (Some cause) h in
    let reported = cause_at-data cause in
    rw five (rw reported refl)
