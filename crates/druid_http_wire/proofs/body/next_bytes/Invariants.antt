use Rattle.std.proofs.Common.{◌≡◌, []}
use Rattle.std.specs.Io.KnownBytes.{Consumes}
use Rattle.druid_http_wire.proofs.body.next_bytes.Given as goal

abbrev pub invariant-loop : goal.invariant-loop
invariant-loop g l = record { same : l.body.items ≡ l.fn.body.items; none : Consumes (g.R.Read.remaining l.fn.reader) (g.R.Read.remaining l.reader) [] }
