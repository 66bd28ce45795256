-- How a connection ends whose request was refused.
use Rattle.std.specs.Prelude.{ℕ}

-- the most bytes that are read on
abbrev pub max_closing : ℕ
max_closing = 33554432
