use Rattle.std.proofs.Common.{◌≡◌, vec_len}
use Rattle.druid_telemetry_metrics.proofs.meter.Counts.new.Given as goal

abbrev pub invariant-loop-place : goal.invariant-loop-place
invariant-loop-place l = vec_len l.cells ≡ l._place
