use Rattle.std.proofs.Common.{◌≤◌, length}
use Rattle.std.specs.Io.KnownBytes.{Consumes}
use Rattle.druid_stream.proofs.LineLemmas.{IsPlain}
use Rattle.druid_stream.proofs.lines.next_line.Given as goal

abbrev pub invariant-loop : goal.invariant-loop
invariant-loop g l = record { short : length l.line.items ≤ l.limit; plain : IsPlain l.line.items; taken : Consumes (g.R.Read.remaining l.fn.reader) (g.R.Read.remaining l.reader) l.line.items }
