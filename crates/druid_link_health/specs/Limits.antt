-- The limits of what is remembered, as numbers.
use Rattle.std.specs.Prelude.{ℕ, ◌-◌, ◌^◌, max}

-- the nodes 0 to 63: each has a bit of 64
abbrev pub max_nodes : ℕ
max_nodes = 64

-- the last millisecond that a mark can keep
abbrev pub last_milli : ℕ
last_milli = 2 ^ 61 - 1

-- for so long an ailing node rests between two tries: a second at least, and no less than an exchange may take
abbrev pub pause_of : ℕ → ℕ
pause_of patience = max patience 1000

-- an exchange succeeds, or fails with one of nine faults
abbrev pub ways : ℕ
ways = 10
