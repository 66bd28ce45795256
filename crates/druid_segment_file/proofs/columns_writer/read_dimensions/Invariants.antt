use Rattle.druid_segment_file.proofs.ColumnWriteLemmas.{AreCodedUpTo}
use Rattle.druid_segment_file.proofs.columns_writer.read_dimensions.Given as goal

abbrev pub invariant-loop-place : goal.invariant-loop-place
invariant-loop-place l =
    AreCodedUpTo l.segment l.place
