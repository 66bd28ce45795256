use Rattle.std.proofs.Common.{◌≡◌, vec_len}
use Rattle.druid_serve_front.proofs.front.open.Given as goal

abbrev pub invariant-loop-number : goal.invariant-loop-number
invariant-loop-number l = vec_len l.places ≡ l.number
