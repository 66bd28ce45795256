use Rattle.std.proofs.Common.{List, map, drop, ap}
use Rattle.std.proofs.lemmas.List.{drop_all}
use Rattle.druid_time.specs.Extent.{Extent}
use Rattle.druid_timeline.specs.Pieces.{cut, shown_at}
use Rattle.druid_timeline.proofs.LookupLemmas.{part_pushed, pieces_done}
use Rattle.druid_timeline.proofs.lookup.pieces_in.Goals as goal

pub loop-part-preserved : goal.loop-part-preserved
loop-part-preserved c = record {
  known = c.in_ok-add_pieces.ensures.known;
  parts = c.in_ok-add_pieces.ensures.parts;
  shown = part_pushed c.loop-part.pieces.items c.add_pieces.new.pieces.items c.args.parts.now c.args.runs.now c.loop-part.part-index c.part-item.result _ c.loop-part-test.true c.part-item.is c.in_ok-add_pieces.ensures.shown c.loop-part.invariant.shown;
}

pub returns-clause-shown : goal.returns-clause-shown
returns-clause-shown c =
    pieces_done c.loop-part.pieces.items (cut (drop c.loop-part.part-index c.args.parts.now) (map shown_at c.args.runs.now)) _
    (ap (λ (ps : List Extent). cut ps (map shown_at c.args.runs.now)) (drop_all c.loop-part.part-index c.args.parts.now c.loop-part-test.false)) c.loop-part.invariant.shown
