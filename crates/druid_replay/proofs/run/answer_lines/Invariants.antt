use Rattle.std.proofs.Common.{◌+◌}
use Rattle.druid_replay.proofs.RunLemmas.{UnderWay}
use Rattle.druid_replay.proofs.run.answer_lines.Given as goal

abbrev pub invariant-loop-count : goal.invariant-loop-count
invariant-loop-count g l = UnderWay (g.R.Read.remaining l.fn.reader) (g.R.Read.remaining l.reader) (g.W.Write.contents l.fn.writer) (g.W.Write.contents l.writer) l.state (l.count + 1)
