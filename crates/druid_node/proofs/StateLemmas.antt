-- What a load and a drop make of a node's state.
use Rattle.std.proofs.Common.{inl, ◌≡◌, ◌≤◌, ◌++◌, ℕ, true, false, List, [], ◌∷◌, Option, Some, None, Result, Err, refl, sym, ap, ◌∙◌, subst}
use Rattle.std.specs.Bool.{⊤}
use Rattle.std.specs.List.{All}
use Rattle.std.specs.Option.{is_some, option_map}
use Rattle.std.proofs.lemmas.Option.{same_Some}
use Rattle.druid_segment_id.specs.Identifier.{Identifier}
use Rattle.druid_segment_descriptor.specs.Described.{Described}
use Rattle.druid_segment_descriptor.specs.Replay.{with_segment, without_segment, is_strict, has_room, after}
use Rattle.druid_segment_descriptor.specs.Reply.{max_changes}
use Rattle.druid_segment_descriptor.proofs.ReplayLemmas.{AreInOrder, in_order}
use Rattle.druid_segment_descriptor.specs.declared.change.Change.{Change}
use Rattle.druid_segment_descriptor.specs.declared.change.Change.TheVariants.{Load, Drop}
use Rattle.druid_sync_history.specs.Kept.{Kept, StandsFor, IsKept, described_named, refusal}
use Rattle.druid_sync_history.specs.declared.fault.HistoryFault.{HistoryFault}
use Rattle.druid_sync_history.specs.declared.fault.HistoryFault.TheVariants.{Served, NotServed, Full, CountAtEnd, Memory}
use Rattle.druid_sync_history.proofs.HistoryLemmas.{no_refusal, stands-more}
use Rattle.druid_segment_rows.specs.Segment.{Segment, IsSegment, HaveWords}
use Rattle.druid_node.specs.State.{State, IsState, descriptor_of, descriptors_of, with_rows, HoldsMore, HoldsLess, Records, Takes, Leaves, Freezes}
use Rattle.druid_partial_scan.specs.Once.{segment_named}
use Rattle.druid_node.specs.Held.{IsWhole, IsHeld, with_held, without_held}
use Rattle.druid_node.proofs.HeldLemmas.{absent, with_held-descriptors, without_held-descriptors, All-with_held, All-without_held, not_there, holds_more, holds_less, undone, found_id, found_each, found_there}
use Rattle.druid_node.proofs.TombstoneLemmas.{kept_set, with_rows-strict, with_rows-room, with_rows-more, with_rows-over, with_rows-less, with_rows-under, named_id, named_ordinary, named_tombstone, named_held}

-- ---- a change that is recorded

recorded-set : (old new : Kept) (c : Change) → IsKept old → refusal old c ≡ None → ((history : List Change) → StandsFor old history → StandsFor new (history ++ c ∷ [])) → new.set ≡ after old.set c
recorded-set old new c kept taken step =
    let is = no_refusal old c taken in
    same_Some new.set (after old.set c) (sym (step kept.history kept.stands).set ∙ (stands-more old c kept.history is.strict is.room kept.stands).set)

-- a change that is about to be recorded
pub record IsReady (state : State) (c : Change) : Type 0 where
  pub valid : IsState state
  pub set : IsHeld state.held
  pub kept : IsKept state.history
  pub taken : refusal state.history c ≡ None

order_of : (state : State) (c : Change) → IsReady state c → AreInOrder state.history.set
order_of state c ready = in_order state.history.set (kept_set state.history ready.kept).sorted

pub ready_strict : (state : State) (d : Described) → IsReady state (Load d) → is_strict (descriptors_of state.held) (Load d) ≡ true
ready_strict state d ready =
    ap (λ ds. is_strict ds (Load d)) ready.valid.serves ∙ with_rows-strict state.history.set d (no_refusal state.history (Load d) ready.taken).strict

pub ready_room : (state : State) (d : Described) → IsReady state (Load d) → has_room (descriptors_of state.held) (Load d) ≡ true
ready_room state d ready =
    ap (λ ds. has_room ds (Load d)) ready.valid.serves ∙ with_rows-room state.history.set d (no_refusal state.history (Load d) ready.taken).room

-- the load of a copy is the load
pub recorded_as : (old new : Kept) (d e : Described) → d ≡ e → (new.incarnation ≡ old.incarnation) × (new.limit ≡ old.limit)
    → ((history : List Change) → StandsFor old history → StandsFor new (history ++ Load d ∷ [])) → refusal old (Load e) ≡ None → Records old new (Load e)
recorded_as old new d e same place stands taken = record {
  incarnation = place.0;
  limit = place.1;
  taken = taken;
  stands = λ history h. subst (λ (x : Described). StandsFor new (history ++ Load x ∷ [])) same (stands history h);
}

pub loaded-state : (state : State) (s : Segment) (new : Kept) (held : List Segment) → IsReady state (Load s.descriptor) → IsWhole s → held ≡ with_held s state.held → Records state.history new (Load s.descriptor)
    → IsState (record { history = new; held = held })
loaded-state state s new held ready whole is recorded =
    let d = s.descriptor in
    let none = absent state.held d whole.described ready.set.each (ready_strict state d ready) in
    let set = recorded-set state.history new (Load d) ready.kept ready.taken recorded.stands in
    record {
      serves = ap descriptors_of is ∙ with_held-descriptors state.held s whole.described ready.set.each none ∙ ap (with_segment d) ready.valid.serves
          ∙ sym (with_rows-more d state.history.set (order_of state (Load d) ready) whole.valid.ordinary) ∙ ap with_rows (sym set);
      each = subst (All IsSegment) (sym is) (All-with_held IsSegment s state.held whole.valid ready.valid.each);
      words = subst (All HaveWords) (sym is) (All-with_held HaveWords s state.held whole.words ready.valid.words);
    }

pub loaded-takes : (state : State) (s : Segment) (new : Kept) (held : List Segment) → IsReady state (Load s.descriptor) → IsWhole s → held ≡ with_held s state.held → Records state.history new (Load s.descriptor)
    → Takes state (record { history = new; held = held }) s
loaded-takes state s new held ready whole is recorded =
    let none = absent state.held s.descriptor whole.described ready.set.each (ready_strict state s.descriptor ready) in
    record {
      records = recorded;
      holds = subst (λ (l : List Segment). HoldsMore state.held l s) (sym is) (holds_more state.held s none);
    }

-- the segment is there to be taken out again
pub loaded-there : (state : State) (s : Segment) (id : Identifier) (held : List Segment) → IsReady state (Load s.descriptor) → IsWhole s → held ≡ with_held s state.held → id ≡ s.descriptor.id → is_some (segment_named id held) ≡ true
loaded-there state s id held ready whole is same =
    let none = absent state.held s.descriptor whole.described ready.set.each (ready_strict state s.descriptor ready) in
    (λ i. is_some (segment_named (same i) (is i))) ∙ found_there state.held s none

pub loaded-undone : (state : State) (s : Segment) (id : Identifier) (held back : List Segment) → IsReady state (Load s.descriptor) → IsWhole s → held ≡ with_held s state.held → id ≡ s.descriptor.id → back ≡ without_held id held
    → back ≡ state.held
loaded-undone state s id held back ready whole is same taken =
    let none = absent state.held s.descriptor whole.described ready.set.each (ready_strict state s.descriptor ready) in
    taken ∙ (λ i. without_held (same i) (is i)) ∙ undone state.held s none

-- a state of the same parts
pub same_state : (state now : State) (history : Kept) (held : List Segment) → state ≡ now → history ≡ state.history → held ≡ state.held → record { history = history; held = held } ≡ now
same_state state now history held view e f = (λ i. record { history = e i; held = f i }) ∙ view

pub state_stays : (state : State) (history : Kept) (held : List Segment) → IsState state → history ≡ state.history → held ≡ state.held → IsState (record { history = history; held = held })
state_stays state history held valid e f =
    let same : state ≡ record { history = history; held = held } = λ i. record { history = sym e i; held = sym f i } in
    subst IsState same valid

-- ---- an answer that may freeze a set

abbrev pub StandsAs : Kept → Kept → Type 0
StandsAs old new = (history : List Change) → StandsFor old history → StandsFor new history

-- the history freezes a set that it serves, and goes on to serve it
pub frozen-state : (state : State) (new : Kept) → IsState state → IsKept state.history → StandsAs state.history new → IsState (record { history = new; held = state.held })
frozen-state state new valid kept stands =
    let set : new.set ≡ state.history.set = same_Some new.set state.history.set (sym (stands kept.history kept.stands).set ∙ kept.stands.set) in
    record { serves = valid.serves ∙ ap with_rows (sym set); each = valid.each; words = valid.words }

pub freezes-same : (old new : State) → new ≡ old → Freezes old new
freezes-same old new same =
    let own : Freezes old old = record { incarnation = refl; limit = refl; stands = λ history h. h; only = inl refl; held = refl } in
    subst (Freezes old) (sym same) own

pub freezes-kept : (old new : State) → Freezes old new → IsKept old.history → IsKept new.history
freezes-kept old new freezes kept = record {
  incarnation = subst (λ (n : ℕ). 1 ≤ n) (sym freezes.incarnation) kept.incarnation;
  some = subst (λ (n : ℕ). 1 ≤ n) (sym freezes.limit) kept.some;
  few = subst (λ (n : ℕ). n ≤ max_changes) (sym freezes.limit) kept.few;
  history = kept.history;
  stands = freezes.stands kept.history kept.stands;
}

pub freezes-count : (old new : State) → Freezes old new → IsKept old.history → new.history.count ≡ old.history.count
freezes-count old new freezes kept = (freezes.stands kept.history kept.stands).count ∙ sym kept.stands.count

-- ---- tombstones

-- a tombstone was loaded
pub covered-state : (state : State) (d : Described) (new : Kept) → IsReady state (Load d) → d.tombstone ≡ true → ((history : List Change) → StandsFor state.history history → StandsFor new (history ++ Load d ∷ []))
    → IsState (record { history = new; held = state.held })
covered-state state d new ready over stands =
    let set = recorded-set state.history new (Load d) ready.kept ready.taken stands in
    record { serves = ready.valid.serves ∙ sym (with_rows-over d state.history.set over) ∙ ap with_rows (sym set); each = ready.valid.each; words = ready.valid.words }

-- a tombstone was dropped
pub uncovered-state : (state : State) (d : Described) (new : Kept) → IsReady state (Drop d) → d.tombstone ≡ true → Records state.history new (Drop d) → IsState (record { history = new; held = state.held })
uncovered-state state d new ready over recorded =
    let set = recorded-set state.history new (Drop d) ready.kept ready.taken recorded.stands in
    record { serves = ready.valid.serves ∙ sym (with_rows-under d state.history.set over) ∙ ap with_rows (sym set); each = ready.valid.each; words = ready.valid.words }

not_mapped : (o : Option Segment) → option_map descriptor_of o ≡ None → o ≡ None
not_mapped None e = refl
not_mapped (Some s) e = absurd (cc)

pub uncovered-leaves : (state : State) (id : Identifier) (d : Described) (new : Kept) → IsReady state (Drop d) → described_named id state.history.set ≡ Some d → d.tombstone ≡ true → Records state.history new (Drop d)
    → Leaves state (record { history = new; held = state.held }) d
uncovered-leaves state id d new ready named over recorded =
    let same = named_id state.history.set id d named in
    let unheld : described_named id (descriptors_of state.held) ≡ None =
    ap (described_named id) ready.valid.serves ∙ named_tombstone state.history.set id d (order_of state (Drop d) ready) over named in
    let none = not_mapped (segment_named id state.held) (sym (named_held state.held id) ∙ unheld) in
    record {
      records = recorded;
      holds = record { members = λ s. (λ there. (λ own. not_there state.held id s none there (own ∙ sym same), there), λ both. both.1) };
    }

-- ---- drops

abbrev pub recording_reported : HistoryFault → Result ⊤ HistoryFault
recording_reported f = Err f

-- a drop that is not refused is recorded
pub drop_recorded : (kept : Kept) (c : Change) (f : HistoryFault) → refusal kept c ≡ None → (recording_reported f ≡ recording_reported Served → refusal kept c ≡ Some Served)
    → (recording_reported f ≡ recording_reported NotServed → refusal kept c ≡ Some NotServed) → (recording_reported f ≡ recording_reported Full → refusal kept c ≡ Some Full)
    → (recording_reported f ≡ recording_reported CountAtEnd → refusal kept c ≡ Some CountAtEnd) → (recording_reported f ≡ recording_reported Memory → ⊥) → ⊥
drop_recorded kept c Served none a b d e m = let h = a refl in absurd (cc)
drop_recorded kept c NotServed none a b d e m = let h = b refl in absurd (cc)
drop_recorded kept c Full none a b d e m = let h = d refl in absurd (cc)
drop_recorded kept c CountAtEnd none a b d e m = let h = e refl in absurd (cc)
drop_recorded kept c Memory none a b d e m = m refl

mapped : (o : Option Segment) (d : Described) → option_map descriptor_of o ≡ Some d → (s : Segment) × (o ≡ Some s) × (s.descriptor ≡ d)
mapped None d e = absurd (cc)
mapped (Some s) d e = (s, refl, same_Some s.descriptor d e)

-- the segment that the history has under an identifier is held
pub held_found : (state : State) (id : Identifier) (d : Described) → IsState state → d.tombstone ≡ false → described_named id state.history.set ≡ Some d
    → (s : Segment) × (segment_named id state.held ≡ Some s) × (s.descriptor ≡ d)
held_found state id d valid ordinary named =
    mapped (segment_named id state.held) d
    (sym (named_held state.held id) ∙ ap (described_named id) valid.serves ∙ named_ordinary state.history.set id d ordinary named)

pub dropped-state : (state : State) (id : Identifier) (d : Described) (new : Kept) (held : List Segment) → IsReady state (Drop d) → described_named id state.history.set ≡ Some d → d.tombstone ≡ false
    → held ≡ without_held id state.held → Records state.history new (Drop d) → IsState (record { history = new; held = held })
dropped-state state id d new held ready named ordinary is recorded =
    let found = held_found state id d ready.valid ordinary named in
    let s = found.0 in
    let whole : IsWhole s = found_each IsWhole state.held id s ready.set.each found.1 in
    let same = found_id state.held id s found.1 in
    let set = recorded-set state.history new (Drop d) ready.kept ready.taken recorded.stands in
    record {
      serves = ap descriptors_of is ∙ without_held-descriptors state.held id s ready.set whole.described same found.1
          ∙ (λ i. without_segment (found.2 i) (ready.valid.serves i)) ∙ sym (with_rows-less d state.history.set) ∙ ap with_rows (sym set);
      each = subst (All IsSegment) (sym is) (All-without_held IsSegment id state.held ready.valid.each);
      words = subst (All HaveWords) (sym is) (All-without_held HaveWords id state.held ready.valid.words);
    }

pub dropped-leaves : (state : State) (id : Identifier) (d : Described) (new : Kept) (held : List Segment) → described_named id state.history.set ≡ Some d → held ≡ without_held id state.held
    → segment_named id held ≡ None → Records state.history new (Drop d) → Leaves state (record { history = new; held = held }) d
dropped-leaves state id d new held named is gone recorded =
    let none : segment_named id (without_held id state.held) ≡ None = ap (segment_named id) (sym is) ∙ gone in
    let less = subst (λ (l : List Segment). HoldsLess state.held l id) (sym is) (holds_less state.held id none) in
    record { records = recorded; holds = subst (λ (k : Identifier). HoldsLess state.held held k) (named_id state.history.set id d named) less }
