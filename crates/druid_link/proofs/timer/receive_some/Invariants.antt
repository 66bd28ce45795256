use Rattle.std.proofs.Common.{◌≡◌, length}
use Rattle.std.specs.Io.KnownBytes.{Keeps}
use Rattle.druid_link.proofs.timer.receive_some.Given as goal

abbrev pub invariant-loop : goal.invariant-loop
invariant-loop g l = record { kept : Keeps (g.S.Read.remaining l.fn.stream) (g.S.Read.remaining l.stream); room : length l.part ≡ length l.fn.part }
