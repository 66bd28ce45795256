use Rattle.std.proofs.Common.{◌≡◌, take, flat_map}
use Rattle.druid_telemetry_metrics.specs.Text.{family_text}
use Rattle.druid_telemetry_metrics.proofs.text.family_texts.Given as goal

abbrev pub invariant-loop-family : goal.invariant-loop-family
invariant-loop-family l = l.text.items ≡ flat_map family_text (take l.family-index l.families)
