use Rattle.std.proofs.Common.{◌≡◌, flat_map, take}
use Rattle.druid_telemetry_metrics.specs.Families.{route_answers}
use Rattle.druid_telemetry_metrics.proofs.families.answers.Given as goal

abbrev pub invariant-loop-route : goal.invariant-loop-route
invariant-loop-route l =
    l.samples.items ≡ flat_map (route_answers l.server l.readings.answers) (take l.route-index l.routes)
