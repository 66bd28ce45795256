-- What is kept of a history: after one change more, and after a mark.
use Rattle.std.proofs.Common.{◌≡◌, ℕ, ◌+◌, ◌-◌, ◌<◌, ◌≤◌, suc, zero, nat_eq, nat_lt, nat_le, if◌then◌else◌, append_assoc, add-one, Bool, true, false, not, List, [], ◌∷◌, ◌++◌, length, drop, take, Option, Some, None, Result, Err, refl, sym, ap, ◌∙◌, subst, arith, inl, inr, length-append}
use Rattle.std.specs.Bool.{⊤}
use Rattle.std.specs.Option.{option_and_then, option_or}
use Rattle.std.specs.List.{slice_get}
use Rattle.std.proofs.lemmas.Bool.{cases_Bool, eqb-true, ltb-false, leb-true, leb-false}
use Rattle.std.proofs.lemmas.List.{drop-drop, length-drop, drop-append-le, take-append-le}
use Rattle.std.proofs.lemmas.List.Sorted.{IsPermutation-sym, Contains-permutation}
use Rattle.druid_segment_descriptor.specs.Described.{Described}
use Rattle.druid_segment_descriptor.specs.Mark.{Point}
use Rattle.druid_segment_descriptor.specs.Reply.{max_page}
use Rattle.druid_segment_descriptor.specs.ReplyBody.{IsSnapshotOf}
use Rattle.druid_segment_descriptor.specs.Replay.{IsSegmentSet, is_strict, has_room, after, replay, replay_from}
use Rattle.druid_segment_descriptor.specs.declared.change.Change.{Change}
use Rattle.druid_segment_descriptor.specs.declared.change.Change.TheVariants.{Load, Drop}
use Rattle.druid_segment_descriptor.specs.declared.reply.Body.{Body}
use Rattle.druid_segment_descriptor.specs.declared.reply.Body.TheVariants.{Delta, Snapshot, Page, Reset}
use Rattle.druid_segment_descriptor.proofs.ReplayLemmas.{changed-made, replay_from-append, replay_from-set, sorted-one_list}
use Rattle.druid_segment_descriptor.specs.declared.reply.ReplyFault.{ReplyFault}
use Rattle.druid_segment_descriptor.specs.declared.reply.ReplyFault.TheVariants.{TooMany, LengthOfDelta, DoubledSegment, BadPage, Memory}
use Rattle.druid_sync_history.specs.declared.fault.HistoryFault.{HistoryFault}
use Rattle.druid_sync_history.specs.declared.fault.HistoryFault.TheVariants.{Full, CountAtEnd}
use Rattle.druid_sync_history.specs.declared.fault.HistoryFault.TheVariants as faults
use Rattle.druid_sync_history.specs.Kept.{Kept, Frozen, StandsFor, StandsFrozen, IsFrozen, IsKept, frozen_after, last_changes, last_count, not_strict, refusal}
use Rattle.druid_sync_history.specs.Answer.{cause_of}

-- ---- one change more

last_more : (limit : ℕ) (history kept : List Change) (c : Change) → kept ≡ last_changes limit history → last_changes limit (kept ++ c ∷ []) ≡ last_changes limit (history ++ c ∷ [])
last_more limit history kept c e =
    let k = length history - limit in
    let more = history ++ c ∷ [] in
    let same : kept ++ c ∷ [] ≡ drop k more = ap (λ cs. cs ++ c ∷ []) e ∙ sym (drop-append-le k history (c ∷ []) (omega arith)) in
    let n : length (drop k more) ≡ length more - k = length-drop k more in
    let total : length more ≡ length history + 1 = length-append history (c ∷ []) in
    let place : k + (length (drop k more) - limit) ≡ length more - limit = omega arith in
    ap (last_changes limit) same ∙ drop-drop (length (drop k more) - limit) k more ∙ ap (λ i. drop i more) place

frozen_in : (limit : ℕ) (history : List Change) (c : Change) (f : Frozen) (near : Bool) → nat_le (length history + 1) (f.count + limit) ≡ near → IsFrozen limit history f
    → StandsFrozen limit (history ++ c ∷ []) (if near then Some f else None)
frozen_in limit history c f false e h = tt
frozen_in limit history c f true e h =
    let total : length (history ++ c ∷ []) ≡ length history + 1 = length-append history (c ∷ []) in
    let near = leb-true (length history + 1) (f.count + limit) e in
    record {
      within = omega (arith, h.within, total);
      near = omega (arith, near, total);
      set = ap replay (take-append-le f.count history (c ∷ []) h.within) ∙ h.set;
      many = h.many;
    }

frozen-more : (limit : ℕ) (history : List Change) (c : Change) (frozen : Option Frozen) → StandsFrozen limit history frozen
    → StandsFrozen limit (history ++ c ∷ []) (frozen_after limit (length history + 1) frozen)
frozen-more limit history c None h = tt
frozen-more limit history c (Some f) h = frozen_in limit history c f (nat_le (length history + 1) (f.count + limit)) refl h

-- what is kept after one change more
abbrev pub with_change : Kept → Change → Kept
with_change old c = record {
  incarnation = old.incarnation;
  count = old.count + 1;
  set = after old.set c;
  changes = last_changes old.limit (old.changes ++ c ∷ []);
  limit = old.limit;
  frozen = frozen_after old.limit (old.count + 1) old.frozen;
}

pub stands-more : (old : Kept) (c : Change) (history : List Change) → is_strict old.set c ≡ true → has_room old.set c ≡ true → StandsFor old history → StandsFor (with_change old c) (history ++ c ∷ [])
stands-more old c history strict room h =
    let step : replay (history ++ c ∷ []) ≡ Some (after old.set c) =
    replay_from-append [] history (c ∷ []) ∙ ap (λ o. option_and_then (λ t. replay_from t (c ∷ [])) o) h.set
    ∙ ap (λ o. option_and_then (λ t. replay_from t []) o) (changed-made old.set c strict room) in
    let total : length (history ++ c ∷ []) ≡ length history + 1 = length-append history (c ∷ []) in
    record {
      count = omega (arith, h.count);
      set = step;
      changes = last_more old.limit history old.changes c h.changes;
      frozen = subst (λ n. StandsFrozen old.limit (history ++ c ∷ []) (frozen_after old.limit n old.frozen)) (omega (arith, h.count)) (frozen-more old.limit history c old.frozen h.frozen);
    }

pub kept-more : (old : Kept) (c : Change) → is_strict old.set c ≡ true → has_room old.set c ≡ true → IsKept old → IsKept (with_change old c)
kept-more old c strict room h = record {
  incarnation = h.incarnation;
  some = h.some;
  few = h.few;
  history = h.history ++ c ∷ [];
  stands = stands-more old c h.history strict room h.stands;
}

-- ---- after a mark

-- the changes after the mark are there, and are kept
pub record IsWithin (incarnation count limit : ℕ) (mark : Point) : Type 0 where
  pub incarnation_is : mark.incarnation ≡ incarnation
  pub before : mark.count ≤ count
  pub near : count - mark.count ≤ limit

pub no_cause : (incarnation count limit : ℕ) (mark : Point) → cause_of incarnation count limit mark ≡ None → IsWithin incarnation count limit mark
unfolding cause_of
no_cause incarnation count limit mark h =
    elim (cases_Bool (nat_eq mark.incarnation incarnation)) [
      | inl same ↦ elim (cases_Bool (nat_lt count mark.count)) [
        | inl ahead ↦ let some = rw (same, ahead) at h in absurd (cc)
        | inr beyond ↦ elim (cases_Bool (nat_lt limit (count - mark.count))) [
          | inl far ↦ let some = rw (same, beyond, far) at h in absurd (cc)
          | inr near ↦ record {
            incarnation_is = eqb-true mark.incarnation incarnation same;
            before = ltb-false count mark.count beyond;
            near = ltb-false limit (count - mark.count) near;
          }
        ]
      ]
      | inr other ↦ let some = rw other at h in absurd (cc)
    ]

-- how many changes are kept
pub length-kept : (kept : Kept) (history : List Change) → StandsFor kept history → length kept.changes ≡ kept.count - (kept.count - kept.limit)
length-kept kept history h =
    let n : length kept.changes ≡ length history - (length history - kept.limit) = ap length h.changes ∙ length-drop (length history - kept.limit) history in
    omega (arith, h.count)

pub enough-kept : (kept : Kept) (mark : Point) → IsKept kept → IsWithin kept.incarnation kept.count kept.limit mark → kept.count - mark.count ≤ length kept.changes
enough-kept kept mark h within =
    let n = length-kept kept h.history h.stands in
    omega (arith, within.near, within.before)

-- the last kept ones are those after the mark
pub beyond-kept : (kept : Kept) (mark : Point) (history : List Change) → StandsFor kept history → IsWithin kept.incarnation kept.count kept.limit mark
    → drop (length kept.changes - (kept.count - mark.count)) kept.changes ≡ drop mark.count history
beyond-kept kept mark history h within =
    let n = length-kept kept history h in
    let k = length history - kept.limit in
    let first = length kept.changes - (kept.count - mark.count) in
    let place : k + first ≡ mark.count = omega (arith, h.count, within.near, within.before) in
    ap (drop first) h.changes ∙ drop-drop first k history ∙ ap (λ i. drop i history) place

-- ---- the frozen set

nothing_served : IsSegmentSet []
nothing_served = record { few = omega arith; sorted = λ k d l. absurd (omega (arith, l)) }

frozen-set : (limit : ℕ) (history : List Change) (frozen : Option Frozen) (f : Frozen) → frozen ≡ Some f → StandsFrozen limit history frozen → IsFrozen limit history f
frozen-set limit history frozen f is stands = subst (StandsFrozen limit history) is stands

-- it is a set that a node may serve, too large for one message
pub frozen-kept : (kept : Kept) (f : Frozen) → IsKept kept → kept.frozen ≡ Some f → IsSegmentSet f.set × (max_page < length f.set)
frozen-kept kept f h is =
    let frozen = frozen-set kept.limit h.history kept.frozen f is h.stands.frozen in
    (replay_from-set [] f.set (take f.count h.history) nothing_served frozen.set, frozen.many)

-- ---- all that is served

pub snapshot-is : (mark : Point) (set : List Described) (body : Body) → IsSegmentSet set → IsSnapshotOf mark set body → body ≡ Snapshot mark set
snapshot-is mark set (Delta from to changes) h is = absurd is
snapshot-is mark set (Page at page of segments) h is = absurd is
snapshot-is mark set (Reset cause at) h is = absurd is
snapshot-is mark set (Snapshot at segments) h is =
    let same = sorted-one_list segments set is.2.sorted h.sorted
    (λ x. (Contains-permutation segments set x (IsPermutation-sym set segments is.1), Contains-permutation set segments x is.1)) in
    λ i. Snapshot (is.0 i) (same i)

-- ---- a change that is not refused

-- the set takes it, and there is a count for it
pub record IsTaken (kept : Kept) (c : Change) : Type 0 where
  pub strict : is_strict kept.set c ≡ true
  pub room : has_room kept.set c ≡ true
  pub more : kept.count < last_count

taken : (strict room end : Bool) (a b d : HistoryFault) → option_or (if not strict then Some a else (if not room then Some b else None)) (if end then Some d else None) ≡ None
    → (strict ≡ true) × (room ≡ true) × (end ≡ false)
taken true true false a b d h = (refl, refl, refl)
taken true true true a b d h = absurd (cc)
taken true false end a b d h = absurd (cc)
taken false room end a b d h = absurd (cc)

pub no_refusal : (kept : Kept) (c : Change) → refusal kept c ≡ None → IsTaken kept c
unfolding refusal
no_refusal kept c h =
    let parts = taken (is_strict kept.set c) (has_room kept.set c) (nat_le last_count kept.count) (not_strict c) Full CountAtEnd h in
    record { strict = parts.0; room = parts.1; more = leb-false last_count kept.count parts.2 }

-- no refusal is out of memory
named : (strict room end : Bool) (a : HistoryFault) → (a ≡ faults.Memory → ⊥) → option_or (if not strict then Some a else (if not room then Some Full else None)) (if end then Some CountAtEnd else None) ≡ Some faults.Memory → ⊥
named true true true a other h = absurd (cc)
named true true false a other h = absurd (cc)
named true false end a other h = absurd (cc)
named false room end a other h = other (cc)

not_strict-named : (c : Change) → not_strict c ≡ faults.Memory → ⊥
not_strict-named (Load d) e = absurd (cc)
not_strict-named (Drop d) e = absurd (cc)

abbrev pub recording_reported : HistoryFault → Result ⊤ HistoryFault
recording_reported f = Err f

pub never_memory : (kept : Kept) (c : Change) (f : HistoryFault) → refusal kept c ≡ Some f → recording_reported f ≡ recording_reported faults.Memory → ⊥
unfolding refusal
never_memory kept c f h e =
    let memory : f ≡ faults.Memory = cc in
    named (is_strict kept.set c) (has_room kept.set c) (nat_le last_count kept.count) (not_strict c) (not_strict-named c) (h ∙ ap (λ (g : HistoryFault). Some g) memory)

-- ---- in the steps of the code

abbrev pub fault_reported : ReplyFault → Result Body ReplyFault
fault_reported f = Err f

-- a fault has one of these names
pub no_fault : (f : ReplyFault) → (fault_reported f ≡ fault_reported TooMany → ⊥) → (fault_reported f ≡ fault_reported LengthOfDelta → ⊥)
    → (fault_reported f ≡ fault_reported DoubledSegment → ⊥) → (fault_reported f ≡ fault_reported BadPage → ⊥) → (fault_reported f ≡ fault_reported Memory → ⊥) → ⊥
no_fault TooMany many length doubled page memory = many refl
no_fault LengthOfDelta many length doubled page memory = length refl
no_fault DoubledSegment many length doubled page memory = doubled refl
no_fault BadPage many length doubled page memory = page refl
no_fault Memory many length doubled page memory = memory refl

-- one kept change more is copied
drop_at : (cs : List Change) (i : ℕ) (c : Change) → slice_get cs i ≡ Some c → drop i cs ≡ c ∷ drop (suc i) cs
drop_at [] i c h = absurd (cc)
drop_at (x ∷ cs) zero c h = let same : x ≡ c = cc in ap (λ y. y ∷ cs) same
drop_at (x ∷ cs) (suc i) c h = drop_at cs i c h

pub copied-more : (copies cs whole : List Change) (i : ℕ) (c : Change) → slice_get cs i ≡ Some c → copies ++ drop i cs ≡ whole → (copies ++ c ∷ []) ++ drop (i + 1) cs ≡ whole
copied-more copies cs whole i c h so_far =
    append_assoc copies (c ∷ []) (drop (i + 1) cs) ∙ ap (λ (n : ℕ). copies ++ (c ∷ drop n cs)) (add-one i)
    ∙ ap (λ rest. copies ++ rest) (sym (drop_at cs i c h)) ∙ so_far

pub pushed-more : (copies pushed : List Change) (copy c : Change) (cs whole : List Change) (i : ℕ) → pushed ≡ copies ++ copy ∷ [] → copy ≡ c
    → (copies ++ c ∷ []) ++ drop (i + 1) cs ≡ whole → pushed ++ drop (i + 1) cs ≡ whole
pushed-more copies pushed copy c cs whole i push same more =
    ap (λ (l : List Change). l ++ drop (i + 1) cs) (push ∙ ap (λ (x : Change). copies ++ x ∷ []) same) ∙ more

-- what is kept of a history that a mark lies within
pub within-state : (state now : Kept) (mark : Point) → state ≡ now → cause_of now.incarnation now.count now.limit mark ≡ None → IsWithin state.incarnation state.count state.limit mark
within-state state now mark view h =
    subst (λ (k : Kept). IsWithin k.incarnation k.count k.limit mark) (sym view) (no_cause now.incarnation now.count now.limit mark h)

pub taken-state : (state now : Kept) (c : Change) → state ≡ now → refusal now c ≡ None → IsTaken state c
taken-state state now c view h = subst (λ (k : Kept). IsTaken k c) (sym view) (no_refusal now c h)

pub with_change-is : (old : Kept) (c : Change) (set : List Described) (changes : List Change) (limit : ℕ) (frozen : Option Frozen) → set ≡ after old.set c
    → changes ≡ last_changes old.limit (old.changes ++ c ∷ []) → limit ≡ old.limit → frozen ≡ frozen_after old.limit (old.count + 1) old.frozen
    → record { incarnation = old.incarnation; count = old.count + 1; set = set; changes = changes; limit = limit; frozen = frozen } ≡ with_change old c
with_change-is old c set changes limit frozen set_is changes_are limit_is frozen_is i =
    record { incarnation = old.incarnation; count = old.count + 1; set = set_is i; changes = changes_are i; limit = limit_is i; frozen = frozen_is i }

pub snapshot_of_view : (reply : Body) (mark : Point) (given set : List Described) (now : Kept) → IsSegmentSet set → given ≡ set
    → mark ≡ record { incarnation = now.incarnation; count = now.count } → set ≡ now.set → IsSnapshotOf mark given reply
    → reply ≡ Snapshot (record { incarnation = now.incarnation; count = now.count }) now.set
snapshot_of_view reply mark given set now h copied at view is =
    snapshot-is mark set reply h (subst (λ (ds : List Described). IsSnapshotOf mark ds reply) copied is) ∙ (λ i. Snapshot (at i) (view i))

-- the copied changes are all those after the mark
pub record IsDeltaOf (kept : Kept) (mark : Point) (items : List Change) : Type 0 where
  pub within : IsWithin kept.incarnation kept.count kept.limit mark
  pub long : length items ≡ kept.count - mark.count
  pub last : (history : List Change) → StandsFor kept history → items ≡ drop mark.count history

pub delta_of_view : (kept : Kept) (mark : Point) (n len : ℕ) (items : List Change) → IsKept kept → cause_of kept.incarnation kept.count kept.limit mark ≡ None
    → n ≡ mark.count → len ≡ length kept.changes → items ≡ drop (len - (kept.count - n)) kept.changes → IsDeltaOf kept mark items
delta_of_view kept mark n len items h none n_is len_is items_are =
    let within = no_cause kept.incarnation kept.count kept.limit mark none in
    let enough = enough-kept kept mark h within in
    let place : len - (kept.count - n) ≡ length kept.changes - (kept.count - mark.count) = omega (arith, n_is, len_is) in
    let same : items ≡ drop (length kept.changes - (kept.count - mark.count)) kept.changes = items_are ∙ ap (λ i. drop i kept.changes) place in
    let n_items : length items ≡ length kept.changes - (length kept.changes - (kept.count - mark.count)) = ap length same ∙ length-drop (length kept.changes - (kept.count - mark.count)) kept.changes in
    record {
      within = within;
      long = omega (arith, n_items, enough);
      last = λ history stands. same ∙ beyond-kept kept mark history stands within;
    }
