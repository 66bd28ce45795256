-- A reply is read in one way, where memory is not wanted.
use Rattle.std.proofs.Common.{◌≡◌, ◌<◌, ◌≤◌, ℕ, List, length, Option, None, Some, Result, Ok, Err, ◌⊎◌, inl, inr, refl, sym, ap, ◌∙◌, arith}
use Rattle.std.proofs.lemmas.List.Sorted.{length_permutation, IsPermutation-sym}
use Rattle.druid_segment_descriptor.specs.Described.{Described}
use Rattle.druid_segment_descriptor.specs.Mark.{Point}
use Rattle.druid_segment_descriptor.specs.Reply.{max_segments, max_page, max_changes, HaveOwnIdentifiers, IsAsFar, IsPageOf}
use Rattle.druid_segment_descriptor.specs.ReplyBody.{IsSnapshotOf}
use Rattle.druid_segment_descriptor.specs.declared.change.Change.{Change}
use Rattle.druid_segment_descriptor.specs.declared.reply.Body.{Body}
use Rattle.druid_segment_descriptor.specs.declared.reply.Body.TheVariants.{Delta, Snapshot, Page, Reset}
use Rattle.druid_segment_descriptor.proofs.SortedLemmas.{AreSorted-own, own-permutation}
use Rattle.druid_sync_text.specs.Read.{Form, followed, whole, paged, begun_again, IsDeltaRead, IsSnapshotRead, IsPageRead, Answers}
use Rattle.druid_sync_text.specs.declared.fault.SyncFault.{SyncFault}
use Rattle.druid_sync_text.specs.declared.fault.SyncFault.TheVariants as faults
use Rattle.druid_replay.proofs.OrderOnce.{sorted_once}

abbrev Read : Type 0
Read = Result Body SyncFault

abbrev pub IsKnown : Read → Type 0
IsKnown r = r ≡ Err faults.Memory → ⊥

both : (x r q : Read) → r ≡ x → q ≡ x → r ≡ q
both x r q is too = is ∙ sym too

-- ---- a delta: what is judged, in order

abbrev OfFar : Point → Point → List Change → Read → Type 0
OfFar from to changes r =
    ((IsAsFar from to (length changes) → ⊥) × (r ≡ Err faults.LengthOfDelta))
    ⊎ (IsAsFar from to (length changes) × (r ≡ Ok (Delta from to changes)))

abbrev OfDelta : Point → Point → List Change → Read → Type 0
OfDelta from to changes r =
    ((max_changes < length changes) × (r ≡ Err faults.TooMany))
    ⊎ ((length changes ≤ max_changes) × OfFar from to changes r)

delta_tree : (from to : Point) (changes : List Change) (r : Read) → IsDeltaRead from to changes r → IsKnown r → OfDelta from to changes r
delta_tree from to changes (Ok body) h known = inr (h.1, inr (h.2, ap Ok h.0))
delta_tree from to changes (Err faults.NotJson) h known = absurd h
delta_tree from to changes (Err faults.Shape) h known = absurd h
delta_tree from to changes (Err faults.TooMany) h known = inl (h, refl)
delta_tree from to changes (Err faults.LengthOfDelta) h known = inr (h.0, inl (h.1, refl))
delta_tree from to changes (Err faults.DoubledSegment) h known = absurd h
delta_tree from to changes (Err faults.BadPage) h known = absurd h
delta_tree from to changes (Err faults.Memory) h known = absurd (known refl)

far_once : (from to : Point) (changes : List Change) (r q : Read) → OfFar from to changes r → OfFar from to changes q → r ≡ q
far_once from to changes r q (inl x) (inl y) = both _ r q x.1 y.1
far_once from to changes r q (inl x) (inr y) = absurd (x.0 y.0)
far_once from to changes r q (inr x) (inl y) = absurd (y.0 x.0)
far_once from to changes r q (inr x) (inr y) = both _ r q x.1 y.1

delta_once : (from to : Point) (changes : List Change) (r q : Read) → OfDelta from to changes r → OfDelta from to changes q → r ≡ q
delta_once from to changes r q (inl x) (inl y) = both _ r q x.1 y.1
delta_once from to changes r q (inl x) (inr y) = absurd (omega (arith, x.0, y.0))
delta_once from to changes r q (inr x) (inl y) = absurd (omega (arith, x.0, y.0))
delta_once from to changes r q (inr x) (inr y) = far_once from to changes r q x.1 y.1

-- ---- a snapshot: what is judged, in order

abbrev OfOwn : Point → List Described → Read → Type 0
OfOwn at segments r =
    ((HaveOwnIdentifiers segments → ⊥) × (r ≡ Err faults.DoubledSegment))
    ⊎ ((body : Body) × IsSnapshotOf at segments body × (r ≡ Ok body))

abbrev OfSnapshot : Point → List Described → Read → Type 0
OfSnapshot at segments r =
    ((max_segments < length segments) × (r ≡ Err faults.TooMany))
    ⊎ ((length segments ≤ max_segments) × OfOwn at segments r)

few : (mark : Point) (given : List Described) (body : Body) → IsSnapshotOf mark given body → length given ≤ max_segments
few mark given (Delta from to changes) h = absurd h
few mark given (Snapshot at set) h =
    let same = length_permutation given set h.1 in
    let short = h.2.few in
    omega (arith, same, short)
few mark given (Page at page of segments) h = absurd h
few mark given (Reset cause at) h = absurd h

own : (mark : Point) (given : List Described) (body : Body) → IsSnapshotOf mark given body → HaveOwnIdentifiers given
own mark given (Delta from to changes) h = absurd h
own mark given (Snapshot at set) h = own-permutation set given (IsPermutation-sym given set h.1) (AreSorted-own set h.2.sorted)
own mark given (Page at page of segments) h = absurd h
own mark given (Reset cause at) h = absurd h

snapshot_tree : (at : Point) (segments : List Described) (r : Read) → IsSnapshotRead at segments r → IsKnown r → OfSnapshot at segments r
snapshot_tree at segments (Ok body) h known = inr (few at segments body h, inr (body, h, refl))
snapshot_tree at segments (Err faults.NotJson) h known = absurd h
snapshot_tree at segments (Err faults.Shape) h known = absurd h
snapshot_tree at segments (Err faults.TooMany) h known = inl (h, refl)
snapshot_tree at segments (Err faults.LengthOfDelta) h known = absurd h
snapshot_tree at segments (Err faults.DoubledSegment) h known = inr (h.0, inl (h.1, refl))
snapshot_tree at segments (Err faults.BadPage) h known = absurd h
snapshot_tree at segments (Err faults.Memory) h known = absurd (known refl)

body_once : (mark : Point) (given : List Described) (a b : Body) → IsSnapshotOf mark given a → IsSnapshotOf mark given b → a ≡ b
body_once mark given (Delta from to changes) b h k = absurd h
body_once mark given (Page at page of segments) b h k = absurd h
body_once mark given (Reset cause at) b h k = absurd h
body_once mark given (Snapshot at set) (Delta from to changes) h k = absurd k
body_once mark given (Snapshot at set) (Page to page of segments) h k = absurd k
body_once mark given (Snapshot at set) (Reset cause to) h k = absurd k
body_once mark given (Snapshot at set) (Snapshot to other) h k =
    let marks : at ≡ to = h.0 ∙ sym k.0 in
    let sets : set ≡ other = sorted_once given set other h.1 k.1 h.2.sorted k.2.sorted in
    (λ i. Snapshot (marks i) (sets i))

own_once : (at : Point) (segments : List Described) (r q : Read) → OfOwn at segments r → OfOwn at segments q → r ≡ q
own_once at segments r q (inl x) (inl y) = both _ r q x.1 y.1
own_once at segments r q (inl x) (inr y) = absurd (x.0 (own at segments y.0 y.1))
own_once at segments r q (inr x) (inl y) = absurd (y.0 (own at segments x.0 x.1))
own_once at segments r q (inr x) (inr y) = x.2 ∙ ap Ok (body_once at segments x.0 y.0 x.1 y.1) ∙ sym y.2

snapshot_once : (at : Point) (segments : List Described) (r q : Read) → OfSnapshot at segments r → OfSnapshot at segments q → r ≡ q
snapshot_once at segments r q (inl x) (inl y) = both _ r q x.1 y.1
snapshot_once at segments r q (inl x) (inr y) = absurd (omega (arith, x.0, y.0))
snapshot_once at segments r q (inr x) (inl y) = absurd (omega (arith, x.0, y.0))
snapshot_once at segments r q (inr x) (inr y) = own_once at segments r q x.1 y.1

-- ---- a page: what is judged, in order

abbrev OfPlace : Point → ℕ → ℕ → List Described → Read → Type 0
OfPlace at page of segments r =
    ((IsPageOf page of segments → ⊥) × (r ≡ Err faults.BadPage))
    ⊎ (IsPageOf page of segments × (r ≡ Ok (Page at page of segments)))

abbrev OfPage : Point → ℕ → ℕ → List Described → Read → Type 0
OfPage at page of segments r =
    ((max_page < length segments) × (r ≡ Err faults.TooMany))
    ⊎ ((length segments ≤ max_page) × OfPlace at page of segments r)

page_tree : (at : Point) (page of : ℕ) (segments : List Described) (r : Read) → IsPageRead at page of segments r → IsKnown r → OfPage at page of segments r
page_tree at page of segments (Ok body) h known = inr (h.1.few, inr (h.1, ap Ok h.0))
page_tree at page of segments (Err faults.NotJson) h known = absurd h
page_tree at page of segments (Err faults.Shape) h known = absurd h
page_tree at page of segments (Err faults.TooMany) h known = inl (h, refl)
page_tree at page of segments (Err faults.LengthOfDelta) h known = absurd h
page_tree at page of segments (Err faults.DoubledSegment) h known = absurd h
page_tree at page of segments (Err faults.BadPage) h known = inr (h.0, inl (h.1, refl))
page_tree at page of segments (Err faults.Memory) h known = absurd (known refl)

place_once : (at : Point) (page of : ℕ) (segments : List Described) (r q : Read) → OfPlace at page of segments r → OfPlace at page of segments q → r ≡ q
place_once at page of segments r q (inl x) (inl y) = both _ r q x.1 y.1
place_once at page of segments r q (inl x) (inr y) = absurd (x.0 y.0)
place_once at page of segments r q (inr x) (inl y) = absurd (y.0 x.0)
place_once at page of segments r q (inr x) (inr y) = both _ r q x.1 y.1

page_once : (at : Point) (page of : ℕ) (segments : List Described) (r q : Read) → OfPage at page of segments r → OfPage at page of segments q → r ≡ q
page_once at page of segments r q (inl x) (inl y) = both _ r q x.1 y.1
page_once at page of segments r q (inl x) (inr y) = absurd (omega (arith, x.0, y.0))
page_once at page of segments r q (inr x) (inl y) = absurd (omega (arith, x.0, y.0))
page_once at page of segments r q (inr x) (inr y) = place_once at page of segments r q x.1 y.1

-- ---- a value of any form, or of none

pub read_once : (f : Option Form) (r q : Result Body SyncFault) → Answers f r → Answers f q → IsKnown r → IsKnown q → r ≡ q
read_once None r q h k known too = h ∙ sym k
read_once (Some (followed from to changes)) r q h k known too =
    delta_once from to changes r q (delta_tree from to changes r h known) (delta_tree from to changes q k too)
read_once (Some (whole at segments)) r q h k known too =
    snapshot_once at segments r q (snapshot_tree at segments r h known) (snapshot_tree at segments q k too)
read_once (Some (paged at page of segments)) r q h k known too =
    page_once at page of segments r q (page_tree at page of segments r h known) (page_tree at page of segments q k too)
read_once (Some (begun_again cause at)) r q h k known too = h ∙ sym k
