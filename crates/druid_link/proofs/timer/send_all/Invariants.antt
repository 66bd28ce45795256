use Rattle.std.proofs.Common.{length}
use Rattle.druid_stream.proofs.WriteLemmas.{IsUnderWay}
use Rattle.druid_link.proofs.timer.send_all.Given as goal

abbrev pub invariant-loop-rest : goal.invariant-loop-rest
invariant-loop-rest g l = IsUnderWay l.fn.text l.rest (g.S.Write.contents l.fn.stream) (g.S.Write.contents l.stream)

abbrev pub decreases-loop-rest : goal.decreases-loop-rest
decreases-loop-rest g l = length l.rest
