use Rattle.std.proofs.Common.{◌≡◌, take, flat_map}
use Rattle.druid_telemetry_metrics.specs.Text.{sample_line}
use Rattle.druid_telemetry_metrics.proofs.text.sample_lines.Given as goal

abbrev pub invariant-loop-sample : goal.invariant-loop-sample
invariant-loop-sample l = l.text.items ≡ flat_map (sample_line l.name) (take l.sample-index l.samples)
