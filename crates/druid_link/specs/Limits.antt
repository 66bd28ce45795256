-- The limit of an exchange, as numbers.
use Rattle.std.specs.Prelude.{ℕ}

-- the most bytes of an answer: a head of 16,384 and a body of 16,777,216
abbrev pub max_exchange : ℕ
max_exchange = 16793600
