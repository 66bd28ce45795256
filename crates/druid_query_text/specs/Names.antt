-- The names of a result, as the reader finds them in JSON: only proofs use this.
use Rattle.std.specs.Prelude.{ℕ, List, [], ◌++◌, map, Option, Some, None}
use Rattle.serde_json.specs.View.{view}
use Rattle.serde_json.specs.declared.value.Value.{Value}
use Rattle.druid_query.specs.Query.{Dimension, Aggregator}
use Rattle.druid_query.specs.Fields.{dimension_at, aggregator_at}

abbrev pub output_or : Option Dimension → List ℕ
output_or None = []
output_or (Some d) = d.output_name

abbrev pub name_or : Option Aggregator → List ℕ
name_or None = []
name_or (Some a) = a.name

abbrev pub outputs_in : List Value → List (List ℕ)
outputs_in vs = map (λ v. output_or (dimension_at (view v))) vs

abbrev pub names_in : List Value → List (List ℕ)
names_in vs = map (λ v. name_or (aggregator_at (view v))) vs

-- the names of dimensions and of aggregators
abbrev pub all_names : List Value → List Value → List (List ℕ)
all_names dimensions aggregators = outputs_in dimensions ++ names_in aggregators
