use Rattle.std.proofs.Common.{◌≡◌, vec_len}
use Rattle.druid_telemetry_metrics.proofs.meter.Counts.read.Given as goal

abbrev pub invariant-loop-cell : goal.invariant-loop-cell
invariant-loop-cell l = vec_len l.numbers ≡ l.cell-index
