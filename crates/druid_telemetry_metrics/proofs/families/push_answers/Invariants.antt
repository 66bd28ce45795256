use Rattle.std.proofs.Common.{◌≡◌, ◌++◌, flat_map, take}
use Rattle.druid_telemetry_metrics.specs.Families.{answers_of}
use Rattle.druid_telemetry_metrics.proofs.families.push_answers.Given as goal

abbrev pub invariant-loop-status : goal.invariant-loop-status
invariant-loop-status l =
    l.samples.items
    ≡ l.initial.samples.items ++ flat_map (answers_of l.server l.readings.answers l.route) (take l.status-index l.statuses)
