-- Which exchanges a query's own deadline cut short.
use Rattle.std.specs.Prelude.{ℕ, ◌-◌, Bool, true, false, ◌&&◌, nat_le, nat_lt, Option, Some, None, Result, Ok, Err}
use Rattle.druid_http_message.specs.declared.fault.WireFault.{WireFault}
use Rattle.druid_http_message.specs.declared.fault.WireFault.TheVariants.{Cut, Read, Write, BadHead, HeadTooLong, NoLength, BodyTooLong, Connect, Memory}

-- an exchange whose time is over fails with X8 before it is connected, and with X2 after
abbrev pub is_late : {A : Type 0} → Result A WireFault → Bool
is_late (Ok done) = false
is_late (Err Cut) = false
is_late (Err Read) = true
is_late (Err Write) = false
is_late (Err BadHead) = false
is_late (Err HeadTooLong) = false
is_late (Err NoLength) = false
is_late (Err BodyTooLong) = false
is_late (Err Connect) = true
is_late (Err Memory) = false

-- the deadline came before the exchange ended, and sooner than it might have lasted
abbrev pub is_cut : ℕ → ℕ → ℕ → Option ℕ → Bool
is_cut patience began ended None = false
is_cut patience began ended (Some deadline) = nat_le deadline ended && nat_lt (deadline - began) patience
