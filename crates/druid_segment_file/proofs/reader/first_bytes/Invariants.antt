use Rattle.std.proofs.Common.{◌-◌, length}
use Rattle.druid_segment_file.proofs.TakenLemmas.{HasRead}
use Rattle.druid_segment_file.proofs.reader.first_bytes.Given as goal

abbrev pub invariant-loop-part : goal.invariant-loop-part
invariant-loop-part g l = HasRead l.bytes.items (g.R.Read.remaining l.fn.reader) (g.R.Read.remaining l.reader)

abbrev pub decreases-loop-part : goal.decreases-loop-part
decreases-loop-part g l = 16777217 - length l.bytes.items
