use Rattle.std.specs.Io.KnownBytes.{Keeps}
use Rattle.druid_link.proofs.timer.send_some.Given as goal

abbrev pub invariant-loop : goal.invariant-loop
invariant-loop g l = Keeps (g.S.Write.contents l.fn.stream) (g.S.Write.contents l.stream)
