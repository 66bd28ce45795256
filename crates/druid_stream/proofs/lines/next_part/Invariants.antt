use Rattle.std.proofs.Common.{◌≡◌, []}
use Rattle.std.specs.Io.KnownBytes.{Consumes}
use Rattle.druid_stream.proofs.lines.next_part.Given as goal

abbrev pub invariant-loop : goal.invariant-loop
invariant-loop g l = record { same : l.line.items ≡ l.fn.line.items; none : Consumes (g.R.Read.remaining l.fn.reader) (g.R.Read.remaining l.reader) [] }
