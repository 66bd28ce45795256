-- How long an exchange may take, in nanoseconds.
use Rattle.std.specs.Prelude.{ℕ, ◌-◌, min, max, Option, Some, None}

-- as long as the limit, and no longer than from its start to the deadline, but a millisecond at least
abbrev pub time_from : ℕ → Option ℕ → ℕ → ℕ
time_from limit None start = limit
time_from limit (Some deadline) start = min (max (deadline - start) 1000000) limit
