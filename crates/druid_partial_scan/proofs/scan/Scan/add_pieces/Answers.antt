use Rattle.std.proofs.Common.{refl, arith}
use Rattle.druid_partial_scan.specs.Rows.{counted_by}
use Rattle.druid_partial_scan.specs.Slices.{groups_held}
use Rattle.druid_partial_scan.proofs.SliceLemmas.{adds_none, part_adds}
use Rattle.druid_partial_scan.proofs.scan.Scan.add_pieces.Goals as goal

pub loop-interval-init : goal.loop-interval-init
loop-interval-init c = record {
  room = c.requires.room;
  adds = λ texts over. adds_none c.args.self.now.query texts _ (groups_held c.args.cells.now.groups) refl;
}

pub loop-interval-preserved : goal.loop-interval-preserved
loop-interval-preserved c =
    let scan = c.args.self.now in
    record {
      room = c.in_ok-add_piece.ensures.room;
      adds = λ texts over. part_adds scan.query texts (counted_by scan.query scan.segment) c.args.pieces.now c.loop-interval.interval-index c.interval-item.result
          (groups_held c.args.cells.now.groups) (groups_held c.loop-interval.cells.groups) (groups_held c.add_piece.new.cells.groups)
          (omega arith) c.interval-item.is (c.loop-interval.invariant.adds texts over) (c.in_ok-add_piece.ensures.adds texts over);
    }
