-- The statuses that the program exits with.
use Rattle.std.specs.Prelude.{ℕ, ⊤, Result, Ok, Err}
use Rattle.druid_replay.specs.declared.fault.ReplayFault.{ReplayFault}
use Rattle.druid_replay.specs.declared.fault.ReplayFault.TheVariants as replay
use Rattle.druid_serve_base.specs.declared.serve_fault.ServeFault.{ServeFault}
use Rattle.druid_serve_base.specs.declared.serve_fault.ServeFault.TheVariants as serve
use Rattle.druid_program.specs.declared.exit.Exit.{Exit}
use Rattle.druid_program.specs.declared.exit.Exit.TheVariants.{Done, Refused, Usage, Device}

-- 0 where all was done, 1 for what was handed in, 2 for words that ask for nothing, and 3 for a device or memory
abbrev pub status_of : Exit → ℕ
status_of Done = 0
status_of Refused = 1
status_of Usage = 2
status_of Device = 3

-- a bad line is refused
abbrev pub exit_of_replay : ReplayFault → Exit
exit_of_replay (replay.BadCommand number) = Refused
exit_of_replay (replay.Device number) = Device

-- a config or a folder is refused
abbrev pub exit_of_serve : ServeFault → Exit
exit_of_serve serve.BadConfig = Refused
exit_of_serve serve.BadFolder = Refused
exit_of_serve serve.Device = Device
