use Rattle.druid_http_wire.proofs.FrameLemmas.{HasLines}
use Rattle.druid_http_wire.proofs.frame.find_head.Given as goal

abbrev pub invariant-loop : goal.invariant-loop
invariant-loop g l = HasLines l.passed l.head.items (g.R.Read.remaining l.fn.reader) (g.R.Read.remaining l.reader)
