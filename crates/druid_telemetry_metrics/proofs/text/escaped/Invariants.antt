use Rattle.std.proofs.Common.{◌≡◌, take}
use Rattle.druid_telemetry_metrics.specs.Text.{escaped}
use Rattle.druid_telemetry_metrics.proofs.text.escaped.Given as goal

abbrev pub invariant-loop-byte : goal.invariant-loop-byte
invariant-loop-byte l = l.out.items ≡ escaped l.quoted (take l.byte-index l.bytes)
