use Rattle.std.proofs.Common.{◌≡◌, ◌≤◌, length}
use Rattle.std.specs.Io.KnownBytes.{Consumes}
use Rattle.druid_link.specs.Limits.{max_exchange}
use Rattle.druid_link.specs.declared.tcp_link.TheConstants.{PART}
use Rattle.druid_link.proofs.tcp_link.receive_all.Given as goal

abbrev pub invariant-loop-turn : goal.invariant-loop-turn
invariant-loop-turn g l = record { bound : length l.bytes.items ≤ max_exchange; room : length l.part ≡ PART; reads : l._turn ≤ length l.bytes.items; taken : Consumes (g.S.Read.remaining l.fn.stream) (g.S.Read.remaining l.stream) l.bytes.items }
