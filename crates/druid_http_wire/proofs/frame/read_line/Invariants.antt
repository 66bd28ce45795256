use Rattle.druid_http_wire.proofs.LineLemmas.{HasGrown}
use Rattle.druid_http_wire.proofs.frame.read_line.Given as goal

abbrev pub invariant-loop : goal.invariant-loop
invariant-loop g l = HasGrown l.room l.fn.head.items l.head.items (g.R.Read.remaining l.fn.reader) (g.R.Read.remaining l.reader)
