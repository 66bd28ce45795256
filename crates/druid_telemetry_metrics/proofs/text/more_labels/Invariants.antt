use Rattle.std.proofs.Common.{◌≡◌, take}
use Rattle.druid_telemetry_metrics.specs.Text.{more_labels}
use Rattle.druid_telemetry_metrics.proofs.text.more_labels.Given as goal

abbrev pub invariant-loop-label : goal.invariant-loop-label
invariant-loop-label l = l.text.items ≡ more_labels (take l.label-index l.labels)
