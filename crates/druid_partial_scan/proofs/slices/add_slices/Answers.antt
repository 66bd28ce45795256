use Rattle.std.proofs.Common.{arith, refl}
use Rattle.druid_partial_scan.specs.Slices.{texts_in, groups_held}
use Rattle.druid_partial_scan.specs.SliceGroups.{slice_groups}
use Rattle.druid_partial_scan.proofs.SliceLemmas.{adds_none, part_adds}
use Rattle.druid_partial_scan.proofs.slices.add_slices.Goals as goal

pub loop-slice-init : goal.loop-slice-init
loop-slice-init c = record { room = c.requires.room; adds = adds_none c.args.query.now (texts_in c.args.lists.now) _ (groups_held c.args.cells.now.groups) refl }

pub loop-slice-preserved : goal.loop-slice-preserved
loop-slice-preserved c =
    let query = c.args.query.now in
    record {
      room = c.in_ok-done.ensures.room c.if-not-done.false;
      adds = part_adds query (texts_in c.args.lists.now) (slice_groups query) c.args.slices.now c.loop-slice.slice-index c.slice-item.result
          (groups_held c.args.cells.now.groups) (groups_held c.loop-slice.cells.groups) (groups_held c.add_slice.new.cells.groups)
          (omega arith) c.slice-item.is c.loop-slice.invariant.adds (c.in_ok-done.ensures.adds c.if-not-done.false);
    }
