use Rattle.druid_serve_front.proofs.SeatLemmas.{AreHeldBelow}
use Rattle.druid_serve_front.proofs.seats.Seats.are_held.Given as goal

abbrev pub invariant-loop-place : goal.invariant-loop-place
invariant-loop-place l = AreHeldBelow l.self l.place
