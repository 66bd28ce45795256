use Rattle.std.proofs.Common.{◌≡◌, ℕ, List, subst, sym, ap, ◌∙◌}
use Rattle.std.specs.Bool.{IsTrue}
use Rattle.std.specs.List.{insert}
use Rattle.druid_segment_id.specs.Identifier.{Identifier}
use Rattle.druid_segment_descriptor.specs.Described.{Described}
use Rattle.druid_segment_descriptor.specs.Replay.{StandsAt, BelongsAt, is_strict, after}
use Rattle.druid_segment_descriptor.specs.declared.change.Change.{Change}
use Rattle.druid_segment_descriptor.specs.declared.change.Change.TheVariants.{Load, Drop}
use Rattle.druid_segment_descriptor.proofs.PlaceLemmas.{stands_not_strict, belongs_not_held, inserted, removed}
use Rattle.druid_segment_descriptor.proofs.sets.apply_change.Goals as goal

stands_here : (s t : List Described) (i j : Identifier) (n : ℕ) → t ≡ s → j ≡ i → StandsAt t j n → StandsAt s i n
stands_here s t i j n e f h = subst (λ (x : List Described). StandsAt x i n) e (subst (λ (y : Identifier). StandsAt t y n) f h)

belongs_here : (s t : List Described) (i j : Identifier) (n : ℕ) → t ≡ s → j ≡ i → BelongsAt t j n → BelongsAt s i n
belongs_here s t i j n e f h = subst (λ (x : List Described). BelongsAt x i n) e (subst (λ (y : Identifier). BelongsAt t y n) f h)

strict_so : (s : List Described) (c d : Change) → c ≡ d → IsTrue (is_strict s c) → IsTrue (is_strict s d)
strict_so s c d e h = subst (λ (x : Change). IsTrue (is_strict s x)) e h

pub unreachable-requires : goal.unreachable-requires
unreachable-requires c =
    stands_not_strict c.args.segments.now.items c.in-Load.descriptor c.in_default.field-0
    (strict_so c.args.segments.now.items c.args.change.now (Load c.in-Load.descriptor) c.in-Load.is c.requires.strict)
    (stands_here c.args.segments.now.items c.deref.result.now c.in-Load.descriptor.id c.id.result.now c.in_default.field-0
    c.deref.ensures.value c.id.ensures.value c.in_default.ensures.found)

pub unreachable-requires-in_default-find_segment :
    goal.unreachable-requires-in_default-find_segment
unreachable-requires-in_default-find_segment c =
    belongs_not_held c.args.segments.now.items c.in-Drop.descriptor c.in_default-find_segment.field-0
    (strict_so c.args.segments.now.items c.args.change.now (Drop c.in-Drop.descriptor) c.in-Drop.is c.requires.strict)
    (belongs_here c.args.segments.now.items c.deref-in-Drop.result.now c.in-Drop.descriptor.id c.id-in-Drop.result.now c.in_default-find_segment.field-0
    c.deref-in-Drop.ensures.value c.id-in-Drop.ensures.value c.in_default-find_segment.ensures.absent)

pub returns-in_ok-insert-in-Load-clause-ok : goal.returns-in_ok-insert-in-Load-clause-ok
returns-in_ok-insert-in-Load-clause-ok c =
    let at = belongs_here c.args.segments.now.items c.deref.result.now c.in-Load.descriptor.id c.id.result.now c.in-Err.place
    c.deref.ensures.value c.id.ensures.value c.in-Err.ensures.absent in
    c.in_ok-insert-in-Load.ensures.items
    ∙ ap (insert c.args.segments.now.items c.in-Err.place) c.in_ok-clone-in-Load.ensures.cases
    ∙ inserted c.args.segments.now.items c.in-Load.descriptor c.in-Err.place at
    ∙ sym (ap (after c.args.segments.now.items) c.in-Load.is)

pub returns-in-Ok-clause-ok : goal.returns-in-Ok-clause-ok
returns-in-Ok-clause-ok c =
    let at = stands_here c.args.segments.now.items c.deref-in-Drop.result.now c.in-Drop.descriptor.id c.id-in-Drop.result.now c.in-Ok.place
    c.deref-in-Drop.ensures.value c.id-in-Drop.ensures.value c.in-Ok.ensures.found in
    c.remove.ensures.items
    ∙ removed c.args.segments.now.items c.in-Drop.descriptor c.in-Ok.place c.requires.sorted
    (strict_so c.args.segments.now.items c.args.change.now (Drop c.in-Drop.descriptor) c.in-Drop.is c.requires.strict) at
    ∙ sym (ap (after c.args.segments.now.items) c.in-Drop.is)
