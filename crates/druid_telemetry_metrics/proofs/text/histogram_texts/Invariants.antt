use Rattle.std.proofs.Common.{◌≡◌, take, flat_map}
use Rattle.druid_telemetry_metrics.specs.Text.{histogram_text}
use Rattle.druid_telemetry_metrics.proofs.text.histogram_texts.Given as goal

abbrev pub invariant-loop-histogram : goal.invariant-loop-histogram
invariant-loop-histogram l = l.text.items ≡ flat_map histogram_text (take l.histogram-index l.histograms)
