use Rattle.std.proofs.Common.{◌≡◌, length}
use Rattle.std.specs.Io.KnownBytes.{Keeps}
use Rattle.druid_segment_file.proofs.reader.read_some.Given as goal

abbrev pub invariant-loop : goal.invariant-loop
invariant-loop g l = record { same : length l.part ≡ length l.fn.part; kept : Keeps (g.R.Read.remaining l.fn.reader) (g.R.Read.remaining l.reader) }
