use Rattle.druid_http_wire.proofs.BodyLemmas.{HasBody}
use Rattle.druid_http_wire.proofs.body.read_body.Given as goal

abbrev pub invariant-loop : goal.invariant-loop
invariant-loop g l = HasBody l.body.items l.length (g.R.Read.remaining l.fn.reader) (g.R.Read.remaining l.reader)
