-- What comes back over a link.
use Rattle.std.specs.Prelude.{ℕ, ◌+◌, ◌-◌, ◌^◌, min, List, Result, Ok, Err, Vec}
use Rattle.std.specs.declared.alloc.Global.{Global}
use Rattle.druid_http_message.specs.declared.fault.WireFault.{WireFault}
use Rattle.druid_http_message.specs.declared.fault.WireFault.TheVariants.{Cut, Read, Write, BadHead, HeadTooLong, NoLength, BodyTooLong, Connect, Memory}

-- all bytes until the other side closed, or why there are none
abbrev pub Came : Type 0
Came = Result (List ℕ) WireFault

-- what an exchange gives
abbrev pub came_of : Result (Vec ℕ Global) WireFault → Came
came_of (Ok bytes) = Ok bytes.items
came_of (Err fault) = Err fault

-- what an exchange may fail for: its device, too many bytes, and out of memory
abbrev pub IsLinkFault : WireFault → Type 0
IsLinkFault Cut = ⊥
IsLinkFault Read = Unit {0}
IsLinkFault Write = Unit {0}
IsLinkFault BadHead = ⊥
IsLinkFault HeadTooLong = ⊥
IsLinkFault NoLength = ⊥
IsLinkFault BodyTooLong = Unit {0}
IsLinkFault Connect = Unit {0}
IsLinkFault Memory = Unit {0}

-- one failure more, as far as they are counted
abbrev pub one_more : ℕ → ℕ
one_more n = min (n + 1) (2 ^ 64 - 1)

-- how often the device has failed, after a fault
abbrev pub faults_at : WireFault → ℕ → ℕ
faults_at Cut n = n
faults_at Read n = one_more n
faults_at Write n = one_more n
faults_at BadHead n = n
faults_at HeadTooLong n = n
faults_at NoLength n = n
faults_at BodyTooLong n = n
faults_at Connect n = one_more n
faults_at Memory n = n

-- and after an exchange
abbrev pub faults_after : Came → ℕ → ℕ
faults_after (Ok bytes) n = n
faults_after (Err fault) n = faults_at fault n
