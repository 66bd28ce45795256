use Rattle.std.proofs.Common.{◌≡◌, map, set, Some, refl, sym, ap, ◌∙◌}
use Rattle.std.specs.Arc.{arc_value}
use Rattle.std.specs.List.{slice_get}
use Rattle.std.proofs.lemmas.List.{map-set}
use Rattle.druid_inventory.specs.Entry.{Entry}
use Rattle.druid_inventory.proofs.EditLemmas.{replay_start, replay_end}
use Rattle.druid_inventory.proofs.advance.put_entry.Goals as goal

pub change_set-requires-clause-over : goal.change_set-requires-clause-over
change_set-requires-clause-over c =
    let es = map arc_value c.args.entries.now.items in
    let found : slice_get es c.args.node ≡ Some c.entry_of-known.result.now =
    ap (λ xs. slice_get (map arc_value xs) c.args.node) (sym c.deref.ensures.value) ∙ c.entry_of-known.ensures in
    (es, replay_start es c.args.node c.entry_of-known.result.now c.set.result.now c.args.timelines.now c.args.timelines.now found c.set.ensures.value refl c.requires.over)

pub returns-clause-entries : goal.returns-clause-entries
returns-clause-entries c = map-set arc_value c.args.entries.now.items c.args.node c.args.entry

pub returns-clause-over : goal.returns-clause-over
returns-clause-over c =
    let es = map arc_value c.args.entries.now.items in
    let found : slice_get es c.args.node ≡ Some c.entry_of-known.result.now =
    ap (λ xs. slice_get (map arc_value xs) c.args.node) (sym c.deref.ensures.value) ∙ c.entry_of-known.ensures in
    let start = replay_start es c.args.node c.entry_of-known.result.now c.set.result.now c.args.timelines.now c.args.timelines.now found c.set.ensures.value refl c.requires.over in
    let is : (arc_value c.args.entry).set ≡ c.set-2.result.now =
    ap (λ (e : Entry). e.set) (sym c.deref-2.ensures) ∙ sym c.set-2.ensures.value in
    replay_end es (map arc_value (set c.args.entries.now.items c.args.node c.args.entry)) c.args.node c.entry_of-known.result.now
    (arc_value c.args.entry) c.set-2.result.now c.change_set.new.timelines found is
    (map-set arc_value c.args.entries.now.items c.args.node c.args.entry) (c.in_ok-change_set.ensures es start)
