-- The texts of partials and of results.
use Rattle.std.specs.Prelude.{ℕ, ℤ, List, [], ◌∷◌, map, codes, Option, Some, None}
use Rattle.serde_json.specs.Data.{Data, null, number, string, array, object, no_items, item, Members, no_members, member, put}
use Rattle.serde_json.specs.Find.{of_integer}
use Rattle.serde_json.specs.View.{items_of}
use Rattle.serde_json.specs.Written.{compact_text}
use Rattle.druid_time.specs.Instant.{IsInstant, unix_ms}
use Rattle.druid_time.specs.Texts.{instant_text}
use Rattle.druid_query.specs.Query.{Query, Dimension, Aggregator}
use Rattle.druid_query.specs.Written.{value_data}
use Rattle.druid_query.specs.declared.query_type.QueryType.{QueryType}
use Rattle.druid_query.specs.declared.query_type.QueryType.TheVariants.{Timeseries, GroupBy}
use Rattle.druid_partial.specs.Groups.{Group, AreWords}

-- a number or null
abbrev pub number_data : Option ℤ → Data
number_data None = null
number_data (Some z) = number (of_integer z)

-- ---- partials

-- three values
abbrev pub three_data : Data → Data → Data → Data
three_data a b c = array (item a (item b (item c no_items)))

-- the milliseconds from 1970-01-01T00:00:00.000Z to an instant
abbrev pub bucket_data : ℕ → Data
bucket_data t = number (of_integer (unix_ms t))

abbrev pub values_data : List (Option (List ℕ)) → Data
values_data values = array (items_of (map value_data values))

abbrev pub numbers_data : List (Option ℤ) → Data
numbers_data numbers = array (items_of (map number_data numbers))

-- a group: its bucket, its values, and its numbers
abbrev pub group_data : Group → Data
group_data g = three_data (bucket_data g.key.bucket) (values_data g.key.values) (numbers_data g.numbers)

-- a partial: its groups, in order
abbrev pub partial_data : List Group → Data
partial_data groups = array (items_of (map group_data groups))

-- the text of a partial: its JSON, compact
abbrev pub partial_text : List Group → List ℕ
partial_text groups = compact_text (partial_data groups)

-- ---- results

-- each value at the output name of its dimension, beside what is there
abbrev pub with_values : List Dimension → List (Option (List ℕ)) → Members → Members
with_values [] values ms = ms
with_values (d ∷ ds) [] ms = ms
with_values (d ∷ ds) (v ∷ vs) ms = with_values ds vs (put d.output_name (value_data v) ms)

-- each number at the name of its aggregator, beside what is there
abbrev pub with_numbers : List Aggregator → List (Option ℤ) → Members → Members
with_numbers [] numbers ms = ms
with_numbers (a ∷ all) [] ms = ms
with_numbers (a ∷ all) (x ∷ xs) ms = with_numbers all xs (put a.name (number_data x) ms)

-- what a result tells of a group, by name
abbrev pub reported_data : Query → Group → Data
reported_data query g = object (with_numbers query.aggregations g.numbers (with_values query.dimensions g.key.values no_members))

abbrev pub label_data : ℕ → Data
label_data t = string (instant_text t)

abbrev pub timeseries_row : Data → ℕ → Data
timeseries_row reported bucket =
    object (member (codes "result") reported
    (member (codes "timestamp") (label_data bucket) no_members))

abbrev pub group_by_row : Data → ℕ → Data
group_by_row reported bucket =
    object (member (codes "event") reported
    (member (codes "timestamp") (label_data bucket)
    (member (codes "version") (string (codes "v1")) no_members)))

abbrev pub kinded_row : QueryType → Data → ℕ → Data
kinded_row Timeseries reported bucket = timeseries_row reported bucket
kinded_row GroupBy reported bucket = group_by_row reported bucket

-- a row of a result
abbrev pub row_data : Query → Group → Data
row_data query g = kinded_row query.kind (reported_data query g) g.key.bucket

-- a result: its rows, in order
abbrev pub result_data : Query → List Group → Data
result_data query groups = array (items_of (map (row_data query) groups))

-- the text of a result: its JSON, compact
abbrev pub result_text : Query → List Group → List ℕ
result_text query groups = compact_text (result_data query groups)

-- ---- what is read back

-- an instant, and numbers of 64 bits: what each group that is held has
pub record IsHeld (g : Group) : Type 0 where
  pub bucket : IsInstant g.key.bucket
  pub words : AreWords g.numbers
