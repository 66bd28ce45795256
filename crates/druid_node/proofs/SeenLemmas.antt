-- Marks that rise.
use Rattle.std.proofs.Common.{length-append, ◌≡◌, ◌<◌, ◌+◌, ℕ, Bool, true, false, not, nat_le, if◌then◌else◌, IfSome, List, [], ◌∷◌, Option, Some, None, refl, sym, ap, ◌∙◌, subst, arith, inl, inr, ◌⊎◌, ◌≢◌}
use Rattle.std.specs.Io.KnownBytes.{Keeps}
use Rattle.std.specs.Option.{option_or}
use Rattle.std.proofs.lemmas.Option.{same_Some}
use Rattle.druid_segment_id.specs.Identifier.{Identifier}
use Rattle.druid_segment_descriptor.specs.Described.{Described}
use Rattle.druid_segment_descriptor.specs.Replay.{is_strict, has_room}
use Rattle.druid_sync_history.specs.declared.fault.HistoryFault.{HistoryFault}
use Rattle.druid_sync_history.specs.declared.fault.HistoryFault.TheVariants.{Served, NotServed, Full, CountAtEnd}
use Rattle.druid_http_message.specs.Requests.{RequestValue}
use Rattle.druid_http_wire.specs.Messages.{IsRequest, RequestSays, HasFault}
use Rattle.druid_http_wire.specs.Served.{refusal_text, IsSent, IsCutShort}
use Rattle.druid_http_message.specs.declared.fault.WireFault.{WireFault}
use Rattle.druid_http_wire.proofs.ServeLemmas.{WasRead, served, unsent, refused, unanswered}
use Rattle.druid_node.specs.declared.fault.NodeFault.{NodeFault}
use Rattle.druid_node.specs.declared.fault.NodeFault.TheVariants as faults
use Rattle.std.specs.declared.cmp.Ordering.{Ordering}
use Rattle.std.specs.declared.cmp.Ordering.TheVariants.{Less, Equal, Greater}
use Rattle.std.specs.Ordering.{ordering_then, ordering_reverse}
use Rattle.std.specs.Cmp.{nat_cmp_is}
use Rattle.druid_segment_descriptor.specs.Mark.{Point, mark_cmp}
use Rattle.druid_segment_descriptor.specs.Orders.{mark_cmp-total}
use Rattle.druid_segment_descriptor.specs.declared.change.Change.{Change}
use Rattle.druid_segment_descriptor.specs.declared.change.Change.TheVariants.{Load, Drop}
use Rattle.druid_sync_history.specs.Kept.{Kept, IsKept, last_count, refusal}
use Rattle.druid_node.specs.State.{State, IsState, Freezes, Records, tombstone_of, Refuses, RefusesToDrop, RefusesToCover}
use Rattle.druid_node.proofs.StateLemmas.{freezes-kept, freezes-count}
use Rattle.druid_node.specs.Seen.{mark_of, AreAtMark, IsStale, IsAtLeast, IsLoadRefusal, RefusesAsSeen, RefusesLoad, RefusesDrop, RefusesTombstone, AnswersFrom, AnswersSince, IsServedAsSeen, IsPassedBy, IsUnserved}

-- a change more is a greater count
counted : (old new : Kept) (c : Change) → IsKept old → Records old new c → new.count ≡ old.count + 1
counted old new c kept is =
    let more = (is.stands kept.history kept.stands).count in
    more ∙ length-append kept.history (c ∷ []) ∙ ap (λ n. n + 1) (sym kept.stands.count)

less_count : (a b : Point) → a.incarnation ≡ b.incarnation → a.count < b.count → mark_cmp a b ≡ Less
less_count a b same less =
    let first = sym (nat_cmp_is a.incarnation b.incarnation Equal same) in
    let second = sym (nat_cmp_is a.count b.count Less less) in
    λ i. ordering_then (first i) (second i)

rises : (old new : Kept) (c : Change) → IsKept old → Records old new c
    → mark_cmp (record { incarnation = old.incarnation; count = old.count }) (record { incarnation = new.incarnation; count = new.count }) ≡ Less
rises old new c kept is =
    less_count (record { incarnation = old.incarnation; count = old.count }) (record { incarnation = new.incarnation; count = new.count }) (sym is.incarnation) (omega (arith, counted old new c kept is))

over : (found seen next : Point) (r : Ordering) → mark_cmp found seen ≡ r → (r ≢ Less) → mark_cmp found next ≡ Less → mark_cmp seen next ≡ Less
over found seen next Less e h less = absurd (h refl)
over found seen next Equal e h less = sym (mark_cmp-total.congr found seen next e) ∙ less
over found seen next Greater e h less = mark_cmp-total.trans seen found next (mark_cmp-total.antisymm seen found ∙ ap ordering_reverse e) less

-- a change of a state that is not older than what was seen gives a mark above that
pub raised : (old new : State) (c : Change) (seen after : Point) → IsKept old.history → IsAtLeast (mark_of old) seen → Records old.history new.history c → after ≡ mark_of new → mark_cmp seen after ≡ Less
raised old new c seen after kept at is same =
    ap (mark_cmp seen) same ∙ over (mark_of old) seen (mark_of new) (mark_cmp (mark_of old) seen) refl at (rises old.history new.history c kept is)

turned : (r : Ordering) → r ≢ Less → ordering_reverse r ≢ Greater
turned Less h e = h refl
turned Equal h e = absurd (cc)
turned Greater h e = absurd (cc)

-- a state that is not older than what was seen, and what an answer makes of it
pub at_mark : (incarnation : ℕ) (seen mark : Point) (state next : State) → IsState state → IsKept state.history → state.history.incarnation ≡ incarnation → mark ≡ mark_of state → IsAtLeast (mark_of state) seen
    → Freezes state next → IsState next → AreAtMark incarnation seen mark state next
at_mark incarnation seen mark state next valid kept own is at freezes next_valid =
    let same : mark_of next ≡ mark_of state = λ i. record { incarnation = freezes.incarnation i; count = freezes-count state next freezes kept i } in
    let antisymm = mark_cmp-total.antisymm seen (mark_of state) in
    let risen : mark_cmp seen (mark_of state) ≢ Greater = λ e. turned (mark_cmp (mark_of state) seen) at (sym antisymm ∙ e) in
    record {
      valid = valid;
      kept = kept;
      incarnation_is = own;
      mark_is = sym is;
      risen = subst (λ (m : Point). mark_cmp seen m ≢ Greater) (sym is) risen;
      freezes = freezes;
      next_valid = next_valid;
      next_kept = freezes-kept state next freezes kept;
      next_mark = same ∙ sym is;
    }

-- ---- why a change is not made

set_load : (strict room end : Bool) → option_or (if not strict then Some Served else (if not room then Some Full else None)) (if end then Some CountAtEnd else None) ≡ None
    ⊎ ((f : HistoryFault) × (option_or (if not strict then Some Served else (if not room then Some Full else None)) (if end then Some CountAtEnd else None) ≡ Some f) × IsLoadRefusal f)
set_load true true true = inr (CountAtEnd, refl, tt)
set_load true true false = inl refl
set_load true false end = inr (Full, refl, tt)
set_load false room end = inr (Served, refl, tt)

load_refusal : (kept : Kept) (d : Described) (f : HistoryFault) → refusal kept (Load d) ≡ Some f → IsLoadRefusal f
unfolding refusal
load_refusal kept d f h = elim (set_load (is_strict kept.set (Load d)) (has_room kept.set (Load d)) (nat_le last_count kept.count)) [
  | inl none ↦ absurd (cc)
  | inr some ↦ subst IsLoadRefusal (same_Some some.0 f (sym some.1 ∙ h)) some.2
]

load_reported : (kept : Kept) (d : Described) (incarnation : ℕ) (seen : Point) (fault : NodeFault) → Refuses kept (Load d) fault → RefusesLoad incarnation seen fault
load_reported kept d incarnation seen faults.Device h = absurd h
load_reported kept d incarnation seen (faults.File fault) h = absurd h
load_reported kept d incarnation seen faults.NameDiffers h = absurd h
load_reported kept d incarnation seen (faults.History fault) h = load_refusal kept d fault h
load_reported kept d incarnation seen (faults.Wire fault) h = absurd h
load_reported kept d incarnation seen faults.NoFile h = absurd h
load_reported kept d incarnation seen (faults.Stale found) h = absurd h
load_reported kept d incarnation seen faults.NotPartitionZero h = absurd h
load_reported kept d incarnation seen faults.Memory h = tt

pub load_as : (kept : Kept) (d : Described) (incarnation : ℕ) (found seen : Point) (fault : NodeFault) → RefusesAsSeen incarnation (Refuses kept (Load d)) found seen fault → RefusesLoad incarnation seen fault
load_as kept d incarnation found seen fault (inl (beyond, reported)) = subst (RefusesLoad incarnation seen) (sym reported) beyond
load_as kept d incarnation found seen fault (inr (at, why)) = load_reported kept d incarnation seen fault why

set_drop : (strict end : Bool) (room : Bool) → room ≡ true → option_or (if not strict then Some NotServed else (if not room then Some Full else None)) (if end then Some CountAtEnd else None) ≡ None
    ⊎ ((f : HistoryFault) × (option_or (if not strict then Some NotServed else (if not room then Some Full else None)) (if end then Some CountAtEnd else None) ≡ Some f) × ((f ≡ NotServed) ⊎ (f ≡ CountAtEnd)))
set_drop true true true e = inr (CountAtEnd, refl, inr refl)
set_drop true false true e = inl refl
set_drop strict end false e = absurd (cc)
set_drop false end true e = inr (NotServed, refl, inl refl)

drop_refusal : (kept : Kept) (d : Described) (f : HistoryFault) → refusal kept (Drop d) ≡ Some f → (f ≡ NotServed) ⊎ (f ≡ CountAtEnd)
unfolding refusal
drop_refusal kept d f h = elim (set_drop (is_strict kept.set (Drop d)) (nat_le last_count kept.count) (has_room kept.set (Drop d)) refl) [
  | inl none ↦ absurd (cc)
  | inr some ↦ subst (λ (g : HistoryFault). (g ≡ NotServed) ⊎ (g ≡ CountAtEnd)) (same_Some some.0 f (sym some.1 ∙ h)) some.2
]

drop_found : (kept : Kept) (d : Described) (incarnation : ℕ) (seen : Point) (fault : NodeFault) → Refuses kept (Drop d) fault → RefusesDrop incarnation seen fault
drop_found kept d incarnation seen faults.Device h = absurd h
drop_found kept d incarnation seen (faults.File fault) h = absurd h
drop_found kept d incarnation seen faults.NameDiffers h = absurd h
drop_found kept d incarnation seen (faults.History fault) h = drop_refusal kept d fault h
drop_found kept d incarnation seen (faults.Wire fault) h = absurd h
drop_found kept d incarnation seen faults.NoFile h = absurd h
drop_found kept d incarnation seen (faults.Stale found) h = absurd h
drop_found kept d incarnation seen faults.NotPartitionZero h = absurd h
drop_found kept d incarnation seen faults.Memory h = tt

drop_reported : (kept : Kept) (o : Option Described) (incarnation : ℕ) (seen : Point) (fault : NodeFault) → RefusesToDrop kept o fault → RefusesDrop incarnation seen fault
drop_reported kept None incarnation seen fault h = subst (RefusesDrop incarnation seen) (sym h) (inl refl)
drop_reported kept (Some d) incarnation seen fault h = drop_found kept d incarnation seen fault h

pub drop_as : (kept : Kept) (o : Option Described) (incarnation : ℕ) (found seen : Point) (fault : NodeFault) → RefusesAsSeen incarnation (RefusesToDrop kept o) found seen fault → RefusesDrop incarnation seen fault
drop_as kept o incarnation found seen fault (inl (beyond, reported)) = subst (RefusesDrop incarnation seen) (sym reported) beyond
drop_as kept o incarnation found seen fault (inr (at, why)) = drop_reported kept o incarnation seen fault why

cover_reported : (kept : Kept) (id : Identifier) (incarnation : ℕ) (seen : Point) (fault : NodeFault) → RefusesToCover kept id fault → RefusesTombstone incarnation id seen fault
cover_reported kept id incarnation seen faults.Device h = absurd h
cover_reported kept id incarnation seen (faults.File fault) h = absurd h
cover_reported kept id incarnation seen faults.NameDiffers h = absurd h
cover_reported kept id incarnation seen (faults.History fault) h = (h.0, load_refusal kept (tombstone_of id) fault h.1)
cover_reported kept id incarnation seen (faults.Wire fault) h = absurd h
cover_reported kept id incarnation seen faults.NoFile h = absurd h
cover_reported kept id incarnation seen (faults.Stale found) h = absurd h
cover_reported kept id incarnation seen faults.NotPartitionZero h = h
cover_reported kept id incarnation seen faults.Memory h = h.0

pub cover_as : (kept : Kept) (id : Identifier) (incarnation : ℕ) (found seen : Point) (fault : NodeFault) → id.partition ≡ 0 → RefusesAsSeen incarnation (RefusesToCover kept id) found seen fault
    → RefusesTombstone incarnation id seen fault
cover_as kept id incarnation found seen fault whole (inl (beyond, reported)) = subst (RefusesTombstone incarnation id seen) (sym reported) (whole, beyond)
cover_as kept id incarnation found seen fault whole (inr (at, why)) = cover_reported kept id incarnation seen fault why

-- ---- what was served

pub served_as_seen : (incarnation : ℕ) (seen now : Point) (request : RequestValue) (before after old new : Option (List ℕ)) (sent : ℕ) → WasRead before after request
    → (status : ℕ) × (body : List ℕ) × AnswersFrom incarnation seen now request status body × IsSent old new status body sent → IsServedAsSeen incarnation seen now before after old new sent
served_as_seen incarnation seen now request before after old new sent read =
    served (AnswersFrom incarnation seen now) (now ≡ seen) request before after old new read sent

pub refused_as_seen : (incarnation : ℕ) (seen : Point) (before after old new : Option (List ℕ)) (fault : WireFault) (sent : ℕ) → IfSome before (λ input. HasFault RequestSays input fault)
    → (text : List ℕ) × (refusal_text fault ≡ Some text) × IsSent old new 400 text sent → IsServedAsSeen incarnation seen seen before after old new sent
refused_as_seen incarnation seen before after old new fault sent has =
    refused (AnswersFrom incarnation seen seen) (seen ≡ seen) before after old new fault has refl sent

-- ---- what was not served

abbrev pub ServeReported : ℕ → Point → RequestValue → Option (List ℕ) → Option (List ℕ) → NodeFault → Type 0
ServeReported incarnation seen request old new given =
    ((found : Point) × IsStale incarnation found seen × (given ≡ faults.Stale found) × (new ≡ old))
    ⊎ ((reported : WireFault) × (given ≡ faults.Wire reported) × (status : ℕ) × (body : List ℕ) × AnswersSince incarnation seen request status body × IsCutShort old new status body reported)

read_some : (before after : Option (List ℕ)) (request : RequestValue) → WasRead before after request
    → IfSome before (λ input. (r : RequestValue) × (rest : List ℕ) × (after ≡ Some rest) × IsRequest input r rest)
read_some None after request read = tt
read_some (Some input) after request read = (request, read.0, read.1, read.2)

pub serve_reported : (incarnation : ℕ) (seen : Point) (request : RequestValue) (before after old new : Option (List ℕ)) (given : NodeFault) → WasRead before after request → ServeReported incarnation seen request old new given
    → IsPassedBy incarnation seen before after old new given ⊎ IsUnserved incarnation seen before after old new given
serve_reported incarnation seen request before after old new given read (inl (found, beyond, reported, same)) =
    inl (record { found = found; beyond = beyond; reported = reported; read = read_some before after request read; unwritten = same })
serve_reported incarnation seen request before after old new given read (inr (cause, reported, status, body, answer, cut)) =
    inr (record {
      cause = cause;
      reported = reported;
      now = answer.0;
      fails = unsent (AnswersFrom incarnation seen answer.0) (answer.0 ≡ seen) request before after old new read cause (status, body, answer.1, cut);
    })

abbrev pub UnreadReported : WireFault → Option (List ℕ) → Option (List ℕ) → NodeFault → Type 0
UnreadReported fault old new given =
    (reported : WireFault) × (given ≡ faults.Wire reported)
    × (((reported ≡ fault) × (refusal_text fault ≡ None) × Keeps old new) ⊎ ((text : List ℕ) × (refusal_text fault ≡ Some text) × IsCutShort old new 400 text reported))

pub unread_reported : (incarnation : ℕ) (seen : Point) (before after old new : Option (List ℕ)) (fault : WireFault) (given : NodeFault) → IfSome before (λ input. HasFault RequestSays input fault) → UnreadReported fault old new given
    → IsPassedBy incarnation seen before after old new given ⊎ IsUnserved incarnation seen before after old new given
unread_reported incarnation seen before after old new fault given has (cause, reported, why) =
    inr (record {
      cause = cause;
      reported = reported;
      now = seen;
      fails = unanswered (AnswersFrom incarnation seen seen) (seen ≡ seen) before after old new fault has refl cause why;
    })
