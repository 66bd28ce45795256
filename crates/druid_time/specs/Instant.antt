-- An instant is the number of whole milliseconds since 0000-01-01T00:00:00.000Z.
use Rattle.std.specs.Prelude.{ℕ, ◌<◌, ℤ, pos, ◌-ℤ◌}

-- the milliseconds of a day
abbrev pub day_length : ℕ
day_length = 86_400_000

-- the instants of the years 0000 to 9999: those of 3,652,425 days
abbrev pub instant_count : ℕ
instant_count = 315_569_520_000_000

-- 1970-01-01T00:00:00.000Z
abbrev pub unix_epoch : ℕ
unix_epoch = 62_167_219_200_000

abbrev pub IsInstant : ℕ → Type 0
IsInstant t = t < instant_count

-- the same instant, counted from 1970-01-01T00:00:00.000Z
abbrev pub unix_ms : ℕ → ℤ
unix_ms t = pos t -ℤ pos unix_epoch
