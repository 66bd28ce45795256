-- The fields of a query, read out of JSON: the shape of each.
use Rattle.std.specs.Prelude.{ℕ, Bool, true, false, List, codes, Option, Some, None, is_some, option_map, option_and_then, if◌then◌else◌}
use Rattle.std.specs.Str.{bytes_eq, str_eq_ignore_ascii_case}
use Rattle.std.specs.Result.{result_ok}
use Rattle.serde_json.specs.Data.{Data, null, boolean, number, string, array, object, Items, no_items, item, no_members, member}
use Rattle.serde_json.specs.Find.{get, as_str, as_array}
use Rattle.druid_time.specs.Extent.{Extent}
use Rattle.druid_base.specs.Options.{◌>>=◌}
use Rattle.druid_time.specs.Texts.{extent_at}
use Rattle.druid_time.specs.declared.granularity.Granularity.{Granularity}
use Rattle.druid_time.specs.declared.granularity.Granularity.TheVariants.{All, Second, Minute, Hour, Day}
use Rattle.druid_base.specs.Fields.{text_at}
use Rattle.druid_query.specs.Query.{Dimension, Aggregator}
use Rattle.druid_base.specs.Each.{each_of}
use Rattle.druid_query.specs.declared.aggregator.AggregatorKind.{AggregatorKind}
use Rattle.druid_query.specs.declared.aggregator.AggregatorKind.TheVariants.{Count, LongSum, LongMin, LongMax}
use Rattle.druid_query.specs.declared.query_type.QueryType.{QueryType}
use Rattle.druid_query.specs.declared.query_type.QueryType.TheVariants.{Timeseries, GroupBy}

-- ---- `queryType`

abbrev pub kind_named : List ℕ → Option QueryType
kind_named text =
    if bytes_eq text (codes "timeseries") then Some Timeseries
    else (if bytes_eq text (codes "groupBy") then Some GroupBy else None)

unfoldable pub kind_at : Data → Option QueryType
kind_at d = do
  text ← text_at (codes "queryType") d
  kind_named text

-- ---- `dataSource`

-- the name at a key, where the type is this one
abbrev pub typed_text : List ℕ → List ℕ → Data → Option (List ℕ)
typed_text wanted key d = do
  kind ← text_at (codes "type") d
  if bytes_eq kind wanted then text_at key d else None

-- a name, or a table of that name
unfoldable pub source_text : Data → Option (List ℕ)
source_text d = if is_some (as_str d) then as_str d else typed_text (codes "table") (codes "name") d

-- ---- `granularity`

abbrev pub granularity_named : List ℕ → Option Granularity
granularity_named text =
    if str_eq_ignore_ascii_case text (codes "all") then Some All
    else (if str_eq_ignore_ascii_case text (codes "second") then Some Second
    else (if str_eq_ignore_ascii_case text (codes "minute") then Some Minute
    else (if str_eq_ignore_ascii_case text (codes "hour") then Some Hour
    else (if str_eq_ignore_ascii_case text (codes "day") then Some Day else None))))

-- an object of the type `all`
abbrev pub all_at : Data → Option Granularity
all_at d = do
  kind ← text_at (codes "type") d
  if bytes_eq kind (codes "all") then Some All else None

-- a name in any case of its letters, or such an object
unfoldable pub granularity_of : Data → Option Granularity
granularity_of d = if is_some (as_str d) then (as_str d >>= granularity_named) else all_at d

-- ---- `intervals`

-- a list with a member, where each reads
abbrev pub each_among : {A : Type 0} → (Data → Option A) → Items → Option Items
each_among f no_items = None
each_among f (item d ds) = if is_some (each_of f (item d ds)) then Some (item d ds) else None

-- a list with a member, and each is a text
abbrev pub texts_among : Items → Option Items
texts_among items = each_among as_str items

-- the list of an object of the type `intervals`
abbrev pub listed_at : Data → Option Items
listed_at d = do
  kind ← text_at (codes "type") d
  if bytes_eq kind (codes "intervals") then option_and_then as_array (get (codes "intervals") d) else None

-- the texts of one interval, of a list or of an object
unfoldable pub interval_texts : Data → Option Items
interval_texts d =
    if is_some (as_str d) then Some (item d no_items)
    else (if is_some (as_array d) then (as_array d >>= texts_among) else (listed_at d >>= texts_among))

-- the texts of a list alone
unfoldable pub listed_texts : Data → Option Items
listed_texts d = as_array d >>= texts_among

-- the interval that a text names
abbrev pub interval_of : Data → Option Extent
interval_of d = as_str d >>= λ text. result_ok (extent_at text)

-- ---- lists that may be absent

abbrev pub items_or_none : Option Data → Option Items
items_or_none None = Some no_items
items_or_none (Some d) = as_array d

-- ---- `dimensions`

-- the text, and this one where it is absent
abbrev pub text_or : List ℕ → Option Data → Option (List ℕ)
text_or otherwise None = Some otherwise
text_or otherwise (Some d) = as_str d

abbrev pub same_name : List ℕ → Dimension
same_name name = record { dimension = name; output_name = name }

-- a dimension by an object
unfoldable pub default_dimension : Data → Option Dimension
default_dimension d = do
  name ← typed_text (codes "default") (codes "dimension") d
  output ← text_or name (get (codes "outputName") d)
  Some (record { dimension = name; output_name = output })

-- a name, or an object with a dimension and perhaps another name for the result
unfoldable pub dimension_at : Data → Option Dimension
dimension_at d = if is_some (as_str d) then option_map same_name (as_str d) else default_dimension d

-- ---- `aggregations`

abbrev pub aggregator_named : List ℕ → Option AggregatorKind
aggregator_named text =
    if bytes_eq text (codes "count") then Some Count
    else (if bytes_eq text (codes "longSum") then Some LongSum
    else (if bytes_eq text (codes "longMin") then Some LongMin
    else (if bytes_eq text (codes "longMax") then Some LongMax else None)))

-- the field that an aggregator of that kind takes; to count takes none
abbrev pub field_for : AggregatorKind → Data → Option (Option (List ℕ))
field_for Count d = Some None
field_for LongSum d = option_map Some (text_at (codes "fieldName") d)
field_for LongMin d = option_map Some (text_at (codes "fieldName") d)
field_for LongMax d = option_map Some (text_at (codes "fieldName") d)

unfoldable pub aggregator_at : Data → Option Aggregator
aggregator_at d = do
  text ← text_at (codes "type") d
  kind ← aggregator_named text
  name ← text_at (codes "name") d
  field ← field_for kind d
  Some (record { name = name; kind = kind; field = field })

-- ---- what has to be left out

-- null, an empty list or an empty object
abbrev pub is_empty : Data → Bool
is_empty null = true
is_empty (boolean b) = false
is_empty (number n) = false
is_empty (string s) = false
is_empty (array no_items) = true
is_empty (array (item d ds)) = false
is_empty (object no_members) = true
is_empty (object (member k d ms)) = false

abbrev pub is_empty_or_absent : Option Data → Bool
is_empty_or_absent None = true
is_empty_or_absent (Some d) = is_empty d

-- null or false
abbrev pub is_null_or_false : Data → Bool
is_null_or_false null = true
is_null_or_false (boolean true) = false
is_null_or_false (boolean false) = true
is_null_or_false (number n) = false
is_null_or_false (string s) = false
is_null_or_false (array ds) = false
is_null_or_false (object ms) = false

abbrev pub is_off : Option Data → Bool
is_off None = true
is_off (Some d) = is_null_or_false d
