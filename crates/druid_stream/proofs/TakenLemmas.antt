-- How much is taken of a reader, in several reads.
use Rattle.std.proofs.Common.{ℕ, ◌+◌, ◌≤◌, List, [], ◌++◌, length, length-append, Option, arith}
use Rattle.std.proofs.KnownBytes.{Consumes-trans, Consumes-kept}
use Rattle.std.specs.Io.KnownBytes.{Consumes, Keeps}
use Rattle.druid_stream.specs.Taken.{TakesAtMost}

pub takes_front : (n : ℕ) (a b : Option (List ℕ)) (front : List ℕ) → Consumes a b front → length front ≤ n → TakesAtMost n a b
takes_front n a b front taken within = record { front = front; taken = taken; within = within }

-- a read that failed takes nothing more
pub takes_kept : (n : ℕ) (a b c : Option (List ℕ)) (front : List ℕ) → Consumes a b front → length front ≤ n → Keeps b c → TakesAtMost n a c
takes_kept n a b c front taken within kept = record { front = front; taken = Consumes-kept a b c front taken kept; within = within }

pub takes_more : (m n : ℕ) (a b c : Option (List ℕ)) (front : List ℕ) → Consumes a b front → TakesAtMost m b c → length front + m ≤ n → TakesAtMost n a c
takes_more m n a b c front taken more fits = record {
  front = front ++ more.front;
  taken = Consumes-trans a b c front more.front taken more.taken;
  within = omega (arith, fits, more.within, length-append front more.front);
}
