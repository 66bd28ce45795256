use Rattle.std.proofs.Common.{take}
use Rattle.std.specs.List.{flat_map}
use Rattle.druid_partial_scan.specs.Scans.{HasRoom}
use Rattle.druid_partial_scan.specs.Slices.{texts_in, room_over, groups_held, Adds}
use Rattle.druid_partial_scan.specs.SliceGroups.{slice_groups}
use Rattle.druid_partial_scan.proofs.slices.add_slices.Given as goal

abbrev pub invariant-loop-slice : goal.invariant-loop-slice
invariant-loop-slice l = record {
  room : HasRoom l.query (room_over (texts_in l.lists) 1) l.cells;
  adds : Adds l.query (texts_in l.lists) (flat_map (slice_groups l.query) (take l.slice-index l.slices)) (groups_held l.initial.cells.groups) (groups_held l.cells.groups);
}
