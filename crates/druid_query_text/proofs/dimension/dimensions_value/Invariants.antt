use Rattle.std.proofs.Common.{◌≡◌, map, take}
use Rattle.serde_json.specs.View.{view}
use Rattle.druid_query.specs.Written.{dimension_data}
use Rattle.druid_query_text.proofs.dimension.dimensions_value.Given as goal

abbrev pub invariant-loop-dimension : goal.invariant-loop-dimension
invariant-loop-dimension l = map view l.all.items ≡ map dimension_data (take l.dimension-index l.dimensions)
