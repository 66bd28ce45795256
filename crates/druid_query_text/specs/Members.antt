-- The members of a query as it is written: only proofs use this.
use Rattle.std.specs.Prelude.{ℕ, List, codes}
use Rattle.serde_json.specs.Data.{array, Members, put}
use Rattle.druid_query.specs.Query.{Dimension}
use Rattle.druid_query.specs.Written.{dimensions_data}
use Rattle.druid_query.specs.declared.query_type.QueryType.{QueryType}
use Rattle.druid_query.specs.declared.query_type.QueryType.TheVariants.{Timeseries, GroupBy}

abbrev pub kind_text : QueryType → List ℕ
kind_text Timeseries = codes "timeseries"
kind_text GroupBy = codes "groupBy"

-- a `timeseries` has no dimensions
abbrev pub dimensions_put : QueryType → List Dimension → Members → Members
dimensions_put Timeseries dimensions members = members
dimensions_put GroupBy dimensions members = put (codes "dimensions") (array (dimensions_data dimensions)) members
