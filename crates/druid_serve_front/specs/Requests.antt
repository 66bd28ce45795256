-- A request of which some bytes have come.
use Rattle.std.specs.Prelude.{◌≡◌, ◌≤◌, ◌+◌, ℕ, List, ◌++◌, length}
use Rattle.druid_http_wire.specs.Limits.{max_head, max_body}
use Rattle.druid_http_wire.specs.Missing.{IsAnswerable}

-- so many bytes more, whatever they are, make it whole, within the limits
pub record Awaits (bytes : List ℕ) (count : ℕ) : Type 0 where
  pub few : length bytes + count ≤ max_head + max_body
  pub whole : (more : List ℕ) → length more ≡ count → IsAnswerable (bytes ++ more)
