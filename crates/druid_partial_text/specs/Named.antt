-- The columns of a result, by name: only proofs use this.
use Rattle.std.specs.Prelude.{◌≡◌, map, List, [], ◌∷◌, length, slice_index_or, None, String, string_bytes}
use Rattle.std.specs.Global.{Global}
use Rattle.serde_json.specs.Data.{Data, array, object, Members, no_members, member}
use Rattle.serde_json.specs.View.{items_of}
use Rattle.druid_query.specs.declared.query_type.QueryType.{QueryType}
use Rattle.druid_query.specs.Query.{Query, Dimension, Aggregator}
use Rattle.druid_query.specs.Written.{value_data}
use Rattle.druid_partial.specs.Groups.{Group, number_at}
use Rattle.druid_partial_text.specs.Written.{number_data, with_values, with_numbers, kinded_row}
use Rattle.druid_partial_text.specs.declared.results.ResultColumn.{ResultColumn}
use Rattle.druid_partial_text.specs.declared.results.ResultColumn.TheVariants.{Value, Number}

-- what a column tells of a group
abbrev pub column_data : Group → ResultColumn → Data
column_data g (Value place) = value_data (slice_index_or g.key.values place None)
column_data g (Number place) = number_data (number_at place g)

-- what all tell, by name
abbrev pub members_by : Group → List (String Global × ResultColumn) → Members
members_by g [] = no_members
members_by g (e ∷ es) = member (string_bytes e.0) (column_data g e.1) (members_by g es)

-- the values of a group have come to stand at the names of dimensions
abbrev pub NamesValues : List Dimension → List (String Global × ResultColumn) → List (String Global × ResultColumn) → Type 0
NamesValues ds old new = (g : Group) → length g.key.values ≡ length ds → members_by g new ≡ with_values ds g.key.values (members_by g old)

-- and its numbers at those of aggregators
abbrev pub NamesNumbers : List Aggregator → List (String Global × ResultColumn) → List (String Global × ResultColumn) → Type 0
NamesNumbers all old new = (g : Group) → length g.numbers ≡ length all → members_by g new ≡ with_numbers all g.numbers (members_by g old)

-- each group with as much as the query asks is written by name
abbrev pub ReportsBy : Query → List (String Global × ResultColumn) → Type 0
ReportsBy q es =
    (g : Group) → length g.key.values ≡ length q.dimensions → length g.numbers ≡ length q.aggregations
    → members_by g es ≡ with_numbers q.aggregations g.numbers (with_values q.dimensions g.key.values no_members)

-- a row, by its columns
abbrev pub row_by : QueryType → List (String Global × ResultColumn) → Group → Data
row_by kind es g = kinded_row kind (object (members_by g es)) g.key.bucket

-- and all of them
abbrev pub rows_by : QueryType → List (String Global × ResultColumn) → List Group → Data
rows_by kind es groups = array (items_of (map (row_by kind es) groups))
