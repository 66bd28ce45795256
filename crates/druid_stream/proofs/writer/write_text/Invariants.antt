use Rattle.std.proofs.Common.{length}
use Rattle.druid_stream.proofs.WriteLemmas.{IsUnderWay}
use Rattle.druid_stream.proofs.writer.write_text.Given as goal

abbrev pub invariant-loop-rest : goal.invariant-loop-rest
invariant-loop-rest g l = IsUnderWay l.fn.text l.rest (g.W.Write.contents l.fn.writer) (g.W.Write.contents l.writer)

abbrev pub decreases-loop-rest : goal.decreases-loop-rest
decreases-loop-rest g l = length l.rest
