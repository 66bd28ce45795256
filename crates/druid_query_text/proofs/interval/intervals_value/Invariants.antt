use Rattle.std.proofs.Common.{◌≡◌, map, take}
use Rattle.serde_json.specs.View.{view}
use Rattle.druid_query.specs.Written.{interval_data}
use Rattle.druid_query_text.proofs.interval.intervals_value.Given as goal

abbrev pub invariant-loop-interval : goal.invariant-loop-interval
invariant-loop-interval l = map view l.all.items ≡ map interval_data (take l.interval-index l.intervals)
