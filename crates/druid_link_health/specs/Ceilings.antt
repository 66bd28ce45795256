-- The limits of 16 MiB that an exchange met, as its answer says.
use Rattle.std.specs.Prelude.{ℕ, List, codes, nat_eq, Option, Some, None, if◌then◌else◌}
use Rattle.std.specs.List.{ends_with}
use Rattle.druid_link_health.specs.declared.ceiling.Ceiling.{Ceiling}
use Rattle.druid_link_health.specs.declared.ceiling.Ceiling.TheVariants.{Answer, Question}

-- the refusals that servers write: no other answer of theirs ends so
abbrev pub ceiling_in : List ℕ → Option Ceiling
ceiling_in bytes =
    if ends_with nat_eq bytes (codes "{\"error\":\"TooLarge\"}") then Some Answer else
    if ends_with nat_eq bytes (codes "{\"error\":\"X7\"}") then Some Question else None
