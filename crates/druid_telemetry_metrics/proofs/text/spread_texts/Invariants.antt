use Rattle.std.proofs.Common.{◌≡◌, take, flat_map}
use Rattle.druid_telemetry_metrics.specs.Text.{spread_lines}
use Rattle.druid_telemetry_metrics.proofs.text.spread_texts.Given as goal

abbrev pub invariant-loop-spread : goal.invariant-loop-spread
invariant-loop-spread l = l.text.items ≡ flat_map (spread_lines l.name) (take l.spread-index l.spreads)
