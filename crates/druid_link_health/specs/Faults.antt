-- The numbers of faults.
use Rattle.std.specs.Prelude.{ℕ, Result, Ok, Err}
use Rattle.druid_http_message.specs.declared.fault.WireFault.{WireFault}
use Rattle.druid_http_message.specs.declared.fault.WireFault.TheVariants.{Cut, Read, Write, BadHead, HeadTooLong, NoLength, BodyTooLong, Connect, Memory}

-- of X1 to X9
abbrev pub number_of : WireFault → ℕ
number_of Cut = 1
number_of Read = 2
number_of Write = 3
number_of BadHead = 4
number_of HeadTooLong = 5
number_of NoLength = 6
number_of BodyTooLong = 7
number_of Connect = 8
number_of Memory = 9

-- of the ways in which an exchange ends: 0 where it succeeds, and else the fault's
abbrev pub way_of : {A : Type 0} → Result A WireFault → ℕ
way_of (Ok done) = 0
way_of (Err fault) = number_of fault
