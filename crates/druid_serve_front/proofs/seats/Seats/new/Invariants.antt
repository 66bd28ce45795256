use Rattle.std.proofs.Common.{◌≡◌, All, vec_len}
use Rattle.druid_serve_front.specs.declared.seats.Seat.TheVariants.{Free}
use Rattle.druid_serve_front.proofs.seats.Seats.new.Given as goal

abbrev pub invariant-loop : goal.invariant-loop
invariant-loop l = record { count : vec_len l.seats ≡ l.counter; free : All (λ seat. seat ≡ Free) l.seats.items }
