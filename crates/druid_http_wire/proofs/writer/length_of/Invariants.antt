use Rattle.std.proofs.Common.{◌≡◌, ◌≤◌, ◌+◌, ◌-◌, ◌^◌, drop, length, min}
use Rattle.druid_http_wire.specs.Written.{joined}
use Rattle.druid_http_wire.proofs.writer.length_of.Given as goal

abbrev pub invariant-loop-piece : goal.invariant-loop-piece
invariant-loop-piece l =
    (l.length ≤ 2 ^ 64 - 1)
    × (min (l.length + length (joined (drop l.piece-index l.pieces))) (2 ^ 64 - 1) ≡ min (length (joined l.pieces)) (2 ^ 64 - 1))
