use Rattle.std.proofs.Common.{◌+◌, ◌++◌, ◌∷◌, [], ap, sym, ◌∙◌, arith, subst, inl, inr}
use Rattle.druid_segment_descriptor.specs.declared.change.Change.{Change}
use Rattle.druid_sync_history.specs.Kept.{Kept, IsKept, StandsFor, frozen_after}
use Rattle.druid_sync_history.proofs.HistoryLemmas.{never_memory, taken-state, kept-more, stands-more, with_change-is}
use Rattle.druid_sync_history.proofs.history.History.record.Goals as goal

pub change_set-requires-clause-strict : goal.change_set-requires-clause-strict
change_set-requires-clause-strict c none = (taken-state _ c.args.self.now c.args.change c.self.view_is (sym c.refusal-refused.ensures ∙ none)).strict

pub change_set-requires-clause-room : goal.change_set-requires-clause-room
change_set-requires-clause-room c none = (taken-state _ c.args.self.now c.args.change c.self.view_is (sym c.refusal-refused.ensures ∙ none)).room

pub returns-in-Err-clause-memory : goal.returns-in-Err-clause-memory
returns-in-Err-clause-memory c e = elim c.in-Err.ensures.fault [
  | inl some ↦ absurd (never_memory c.args.self.now c.args.change c.in-Err.fault (sym c.refusal-refused.ensures ∙ some) e)
  | inr none ↦ sym c.refusal-refused.ensures ∙ none.0
]

pub returns-in-Err-clause-drops : goal.returns-in-Err-clause-drops
returns-in-Err-clause-drops c drop e = elim c.in-Err.ensures.fault [
  | inl some ↦ never_memory c.args.self.now c.args.change c.in-Err.fault (sym c.refusal-refused.ensures ∙ some) e
  | inr none ↦ none.2 drop
]

pub overflow_add-self : goal.overflow_add-self
overflow_add-self c =
    let taken = taken-state _ c.args.self.now c.args.change c.self.view_is (sym c.refusal-refused.ensures ∙ c.in_default.ensures.taken) in
    omega (arith, taken.more)

pub invariant_of-self-2 : goal.invariant_of-self-2
invariant_of-self-2 c =
    let taken = taken-state _ c.args.self.now c.args.change c.self.view_is (sym c.refusal-refused.ensures ∙ c.in_default.ensures.taken) in
    let same = with_change-is _ c.args.change c.change_set.new.segments c.keep.new.changes.items c.keep.new.changes.capacity c.give_up.new.frozen c.in_default.ensures.changed
    c.keep.ensures.kept c.keep.ensures.capacity (c.give_up.ensures ∙ ap (λ n. frozen_after n (c.self.inside.count + 1) c.self.inside.frozen) (c.capacity.ensures.capacity ∙ c.keep.ensures.capacity)) in
    subst IsKept (sym same) (kept-more _ c.args.change taken.strict taken.room c.self.invariant)

pub returns-clause-stands : goal.returns-clause-stands
returns-clause-stands c history stands =
    let taken = taken-state _ c.args.self.now c.args.change c.self.view_is (sym c.refusal-refused.ensures ∙ c.in_default.ensures.taken) in
    let same = with_change-is _ c.args.change c.change_set.new.segments c.keep.new.changes.items c.keep.new.changes.capacity c.give_up.new.frozen c.in_default.ensures.changed
    c.keep.ensures.kept c.keep.ensures.capacity (c.give_up.ensures ∙ ap (λ n. frozen_after n (c.self.inside.count + 1) c.self.inside.frozen) (c.capacity.ensures.capacity ∙ c.keep.ensures.capacity)) in
    let before = subst (λ (k : Kept). StandsFor k history) (sym c.self.view_is) stands in
    subst (λ (k : Kept). StandsFor k (history ++ c.args.change ∷ [])) (sym same) (stands-more _ c.args.change history taken.strict taken.room before)
