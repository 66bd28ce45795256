-- Levels, and what they let through.
use Rattle.std.specs.Prelude.{ℕ, Bool, true, false, List, codes, if◌then◌else◌}
use Rattle.std.specs.Str.{bytes_eq}
use Rattle.druid_telemetry_log.specs.declared.level.Level.{Level}
use Rattle.druid_telemetry_log.specs.declared.level.Level.TheVariants.{Off, Info, Debug}

abbrev pub level_of_text : List ℕ → Level
level_of_text text = if bytes_eq text (codes "info") then Info else if bytes_eq text (codes "debug") then Debug else Off

-- whether a level lets an event of another through
abbrev pub lets : Level → Level → Bool
lets Off event = false
lets Info Off = false
lets Info Info = true
lets Info Debug = false
lets Debug Off = false
lets Debug Info = true
lets Debug Debug = true
