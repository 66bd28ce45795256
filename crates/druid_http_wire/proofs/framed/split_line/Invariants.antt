use Rattle.std.proofs.Common.{take}
use Rattle.druid_http_wire.specs.Frame.{IsPlain}
use Rattle.druid_http_wire.proofs.framed.split_line.Given as goal

abbrev pub invariant-loop-i : goal.invariant-loop-i
invariant-loop-i l = IsPlain (take l.i l.bytes)
