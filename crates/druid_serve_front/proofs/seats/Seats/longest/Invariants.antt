use Rattle.druid_serve_front.proofs.SeatLemmas.{IsFound}
use Rattle.druid_serve_front.proofs.seats.Seats.longest.Given as goal

abbrev pub invariant-loop-place : goal.invariant-loop-place
invariant-loop-place l = IsFound l.self l.place l.found
