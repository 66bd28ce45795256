use Rattle.std.proofs.Common.{◌≢◌, ◌≤◌, take, All}
use Rattle.druid_stream.proofs.lines.scan.Given as goal

abbrev pub invariant-loop-i : goal.invariant-loop-i
invariant-loop-i l = record { plain : All (λ b. b ≢ 10) (take l.i l.bytes); short : l.i ≤ l.room }
