use Rattle.std.proofs.Common.{take}
use Rattle.druid_segment_rows.proofs.PlaceLemmas.{mapped_next}
use Rattle.druid_segment_rows.proofs.table_builder.cut_texts.Goals as goal

pub loop-place-preserved : goal.loop-place-preserved
loop-place-preserved c =
    mapped_next (take c.args.rows) c.args.columns.now c.loop-place.columns c.loop-place.place c.truncate.new.self c.index-columns-place.result c.loop-place-test.true c.loop-place.invariant c.truncate.ensures
