use Rattle.std.proofs.Common.{length}
use Rattle.druid_http_wire.proofs.SplitLemmas.{Passes}
use Rattle.druid_http_wire.proofs.framed.split_head.Given as goal

abbrev pub invariant-loop-line : goal.invariant-loop-line
invariant-loop-line l = Passes l.bytes l.text l.rest

abbrev pub decreases-loop-line : goal.decreases-loop-line
decreases-loop-line l = length l.rest
