-- How long a thread rests between two turns with a node, in milliseconds.
use Rattle.std.specs.Prelude.{ℕ, ◌*◌, min, max, Bool, if◌then◌else◌}

-- after a turn that failed twice the rest before it, up to 30 s, but never less than between turns that do not fail
abbrev pub next_rest : ℕ → ℕ → Bool → ℕ
next_rest rest every failed = if failed then max every (min (2 * rest) 30000) else every
