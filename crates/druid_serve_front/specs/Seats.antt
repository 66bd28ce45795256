-- What front threads do, and whose connection is closed where none of them is free.
use Rattle.std.specs.Prelude.{◌≡◌, ◌≤◌, ◌<◌, ◌+◌, ◌⊎◌, ℕ, List, Option, Some, None, nat_le, if◌then◌else◌, slice_get, slice_set}
use Rattle.druid_serve_front.specs.declared.seats.Seat.{Seat}
use Rattle.druid_serve_front.specs.declared.seats.Seat.TheVariants.{Free, Waits, Closed}

-- how long a thread waits for its client at least before its connection may be closed for another's sake, in nanoseconds
abbrev pub grace : ℕ
grace = 100000000

-- the thread at that place waits for its client since then
abbrev pub WaitsSince : List Seat → ℕ → ℕ → Type 0
WaitsSince seats place since = slice_get seats place ≡ Some (Waits since)

-- the thread at that place is free
abbrev pub IsFree : List Seat → ℕ → Type 0
IsFree seats place = slice_get seats place ≡ Some Free

-- every thread has a connection
abbrev pub AreHeld : List Seat → Type 0
AreHeld seats = (place : ℕ) → ¬ (IsFree seats place)

-- that thread waits for its client since then, and none waits for longer
pub record IsLongest (seats : List Seat) (place since : ℕ) : Type 0 where
  pub waits : WaitsSince seats place since
  pub first : (other later : ℕ) → WaitsSince seats other later → since ≤ later

-- every thread has a connection, and that of the one is closed that waits longest, and for the grace at least
pub record Closes (now place : ℕ) (before after : List Seat) : Type 0 where
  pub since : ℕ
  pub held : AreHeld before
  pub longest : IsLongest before place since
  pub long : since + grace ≤ now
  pub closed : after ≡ slice_set before place Closed

-- a thread is free, or none waits for the grace
abbrev pub NoneCloses : ℕ → List Seat → Type 0
NoneCloses now seats = ((place : ℕ) × IsFree seats place) ⊎ ((place since : ℕ) → WaitsSince seats place since → now < since + grace)

-- of two waits, each with its place and its beginning, the one that began earlier: of equal ones the first
abbrev pub earlier_of : Option (ℕ × ℕ) → ℕ → ℕ → Option (ℕ × ℕ)
earlier_of None place since = Some (place, since)
earlier_of (Some found) place since = if nat_le found.1 since then Some found else Some (place, since)
