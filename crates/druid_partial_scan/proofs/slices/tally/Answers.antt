use Rattle.std.proofs.Common.{◌∙◌, length, ap}
use Rattle.std.specs.List.{flat_map}
use Rattle.std.proofs.lemmas.List.{length-replicate}
use Rattle.druid_partial.specs.Groups.{Key}
use Rattle.druid_partial_scan.specs.Cells.{Cells}
use Rattle.druid_partial_scan.specs.Slices.{group_of, groups_held, texts_in}
use Rattle.druid_partial_scan.specs.SliceGroups.{slice_groups}
use Rattle.druid_partial_scan.proofs.FlatLemmas.{no_cells_map}
use Rattle.druid_partial_scan.proofs.SliceLemmas.{added_all}
use Rattle.druid_partial_scan.proofs.slices.tally.Goals as goal

pub add_slices-requires-clause-room : goal.add_slices-requires-clause-room
add_slices-requires-clause-room c = record {
  width = ap (λ (v : Cells Key). v.width) c.in_ok-cells.ensures ∙ ap length c.aggregations.ensures;
  long = ap (λ (v : Cells Key). length v.groups) c.in_ok-cells.ensures ∙ length-replicate _ _ ∙ c.requires.room;
}

pub returns-then-done : goal.returns-then-done
returns-then-done c =
    let query = c.args.query.now in
    let rows = flat_map (slice_groups query) c.args.slices.now in
    added_all query (texts_in c.args.lists.now) rows c.args.room _ c.add_slices.new.cells
    (ap (λ (v : Cells Key). groups_held v.groups) c.in_ok-cells.ensures ∙ no_cells_map group_of c.args.room) (c.in_ok-done.ensures.room c.if-done.true) (c.in_ok-done.ensures.adds c.if-done.true)
