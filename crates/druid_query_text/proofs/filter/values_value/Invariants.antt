use Rattle.std.proofs.Common.{◌≡◌, map, take, option_map, string_bytes}
use Rattle.serde_json.specs.View.{view}
use Rattle.druid_query.specs.Written.{value_data}
use Rattle.druid_query_text.proofs.filter.values_value.Given as goal

abbrev pub invariant-loop-value : goal.invariant-loop-value
invariant-loop-value l = map view l.all.items ≡ map (λ o. value_data (option_map string_bytes o)) (take l.value-index l.values)
