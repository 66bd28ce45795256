-- The line and the text of a fault.
use Rattle.std.specs.Prelude.{ℕ, List, ◌++◌, codes, decimal}
use Rattle.druid_replay.specs.declared.fault.ReplayFault.{ReplayFault}
use Rattle.druid_replay.specs.declared.fault.ReplayFault.TheVariants.{BadCommand, Device}

-- the number of its line
abbrev pub line_of : ReplayFault → ℕ
line_of (BadCommand number) = number
line_of (Device number) = number

-- what is reported of it
abbrev pub fault_text : ReplayFault → List ℕ
fault_text (BadCommand number) = codes "line " ++ decimal number ++ codes ": bad command"
fault_text (Device number) = codes "line " ++ decimal number ++ codes ": device"
