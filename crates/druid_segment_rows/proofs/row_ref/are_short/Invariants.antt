use Rattle.std.proofs.Common.{take}
use Rattle.druid_segment_rows.specs.Rows.{texts_by, AreShort}
use Rattle.druid_segment_rows.proofs.row_ref.are_short.Given as goal

abbrev pub invariant-loop-value : goal.invariant-loop-value
invariant-loop-value g l = AreShort (texts_by g.T.AsStr.text (take l.value-index l.values))
