use Rattle.std.proofs.Common.{◌≡◌, ◌<◌, ℕ, List, Some, length, map, set, refl, ap, arith, ◌∙◌}
use Rattle.std.specs.List.{slice_get}
use Rattle.std.proofs.lemmas.Option.{slice_get_within}
use Rattle.std.specs.Arc.{arc_value}
use Rattle.std.proofs.lemmas.List.{length-map, map-set}
use Rattle.std.proofs.lemmas.Result.{on_err_weaker, on_ok_weaker}
use Rattle.druid_base.proofs.ListLemmas.{set-found}
use Rattle.druid_inventory.specs.Entry.{Entry}
use Rattle.druid_inventory.proofs.EditLemmas.{replay_start, replay_end}
use Rattle.druid_inventory.proofs.TimelineLemmas.{found_beyond}
use Rattle.druid_inventory.proofs.advance.advance_entries.Goals as goal

within : {A B : Type 0} (f : A → B) (xs : List A) (i : ℕ) (y : B) → slice_get (map f xs) i ≡ Some y → i < length xs
within f xs i y e =
    let l = slice_get_within (map f xs) i y e in
    let long = length-map xs f in
    omega arith

pub advance_known-requires-clause-over : goal.advance_known-requires-clause-over
advance_known-requires-clause-over c =
    let es = map arc_value c.args.entries.now.items in
    let found = found_beyond arc_value c.args.entries.now.items c.args.node c.index_mut-entry.result.now (within arc_value c.args.entries.now.items c.args.node c.requires.made.0 c.requires.made.1) c.index_mut-entry.ensures.value in
    (es, replay_start es c.args.node (arc_value c.index_mut-entry.result.now) _ c.args.timelines.now c.args.timelines.now found refl refl c.requires.over)

pub returns-clause-ok : goal.returns-clause-ok
returns-clause-ok c =
    let found = found_beyond arc_value c.args.entries.now.items c.args.node c.index_mut-entry.result.now (within arc_value c.args.entries.now.items c.args.node c.requires.made.0 c.requires.made.1) c.index_mut-entry.ensures.value in
    on_ok_weaker c.advance_known.result
    (λ moves. (
      arc_value c.index_mut-entry.result.now,
      arc_value c.advance_known.new.entry,
      found,
      moves,
      map-set arc_value c.args.entries.now.items c.args.node c.advance_known.new.entry,
    ))
    c.advance_known.ensures.ok

pub returns-clause-err : goal.returns-clause-err
returns-clause-err c =
    let es = map arc_value c.args.entries.now.items in
    let found = found_beyond arc_value c.args.entries.now.items c.args.node c.index_mut-entry.result.now (within arc_value c.args.entries.now.items c.args.node c.requires.made.0 c.requires.made.1) c.index_mut-entry.ensures.value in
    on_err_weaker c.advance_known.result
    (λ same. map-set arc_value c.args.entries.now.items c.args.node c.advance_known.new.entry ∙ ap (λ (e : Entry). set es c.args.node e) same
    ∙ set-found es c.args.node (arc_value c.index_mut-entry.result.now) found)
    c.advance_known.ensures.err

pub returns-clause-over : goal.returns-clause-over
returns-clause-over c =
    let es = map arc_value c.args.entries.now.items in
    let found = found_beyond arc_value c.args.entries.now.items c.args.node c.index_mut-entry.result.now (within arc_value c.args.entries.now.items c.args.node c.requires.made.0 c.requires.made.1) c.index_mut-entry.ensures.value in
    let start = replay_start es c.args.node (arc_value c.index_mut-entry.result.now) _ c.args.timelines.now c.args.timelines.now found refl refl c.requires.over in
    replay_end es (map arc_value (set c.args.entries.now.items c.args.node c.advance_known.new.entry)) c.args.node (arc_value c.index_mut-entry.result.now)
    (arc_value c.advance_known.new.entry) _ c.advance_known.new.timelines found refl
    (map-set arc_value c.args.entries.now.items c.args.node c.advance_known.new.entry) (c.advance_known.ensures.over es start)
