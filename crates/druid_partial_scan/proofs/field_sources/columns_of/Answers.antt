use Rattle.std.proofs.Common.{None, arith}
use Rattle.druid_partial_scan.proofs.SourceLemmas.{columns_next}
use Rattle.druid_partial_scan.proofs.field_sources.columns_of.Goals as goal

pub loop-place-preserved : goal.loop-place-preserved
loop-place-preserved c =
    columns_next c.args.segment.now c.args.places.now c.loop-place.place-index None c.loop-place.columns.items c.push.new.self.items c.column_of.result
    (omega arith) c.loop-place.invariant c.column_of.ensures c.in_ok-push.ensures.items
