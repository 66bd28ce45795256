use Rattle.std.proofs.Common.{◌+◌, ◌-◌, ◌≡◌, ◌≤◌, length}
use Rattle.druid_stream.specs.Taken.{TakesAtMost}
use Rattle.druid_serve_front.specs.ConnectionEnds.{max_closing}
use Rattle.druid_serve_front.proofs.connection_end.read_on.Given as goal

abbrev pub invariant-loop-taken : goal.invariant-loop-taken
invariant-loop-taken g l = record {
  bound : l.taken ≤ max_closing;
  room : length l.part ≡ 16384;
  took : TakesAtMost l.taken (g.S.Read.remaining l.initial.stream) (g.S.Read.remaining l.stream);
}

abbrev pub decreases-loop-taken : goal.decreases-loop-taken
decreases-loop-taken g l = max_closing + 1 - l.taken
