-- Filters, read out of JSON.
use Rattle.std.specs.Prelude.{ℕ, List, codes, Option, Some, None, option_map, option_and_then, if◌then◌else◌}
use Rattle.std.specs.Ordering.{nat_cmp, match_ordering}
use Rattle.std.specs.Cmp.Lexicographic.{slice_cmp}
use Rattle.std.specs.Str.{bytes_eq}
use Rattle.serde_json.specs.Data.{Data, null, boolean, number, string, array, object, Items, no_items, item, Members, no_members, member}
use Rattle.serde_json.specs.Find.{get_member, as_str, as_array}
use Rattle.druid_base.specs.Fields.{text_or_null}
use Rattle.druid_base.specs.Options.{◌>>=◌}
use Rattle.druid_base.specs.Each.{each_of}
use Rattle.druid_filter.specs.Filters.{Condition, has, has_among, all_of, any_of, is_not, Conditions, no_conditions, condition}

-- the text at a key of an object
abbrev pub text_in : List ℕ → Members → Option (List ℕ)
text_in key ms = option_and_then as_str (get_member key ms)

-- a dimension has a value
unfoldable pub selector_in : Members → Option Condition
selector_in ms = do
  dimension ← text_in (codes "dimension") ms
  value ← option_and_then text_or_null (get_member (codes "value") ms)
  Some (has dimension value)

-- a dimension has one of some values
unfoldable pub among_in : Members → Option Condition
among_in ms = do
  dimension ← text_in (codes "dimension") ms
  values ← option_and_then as_array (get_member (codes "values") ms)
  wanted ← each_of text_or_null values
  Some (has_among dimension wanted)

-- the filter of that type, where these are the filters of its fields
abbrev pub filter_of_type : List ℕ → Members → Option Conditions → Option Condition → Option Condition
filter_of_type kind ms fields field =
    if bytes_eq kind (codes "selector") then selector_in ms
    else (if bytes_eq kind (codes "in") then among_in ms
    else (if bytes_eq kind (codes "and") then option_map all_of fields
    else (if bytes_eq kind (codes "or") then option_map any_of fields
    else (if bytes_eq kind (codes "not") then option_map is_not field
    else None))))

-- the filter that a value is, if it is one; it goes by its type
unfoldable mutual
  pub filter_at : Data → Option Condition
  filter_at null = None
  filter_at (boolean b) = None
  filter_at (number n) = None
  filter_at (string s) = None
  filter_at (array ds) = None
  filter_at (object ms) =
      text_in (codes "type") ms >>= λ kind. filter_of_type kind ms (filters_in (codes "fields") ms) (filter_in (codes "field") ms)

  -- the filter at a key
  pub filter_in : List ℕ → Members → Option Condition
  filter_in key no_members = None
  filter_in key (member k d ms) = match_ordering (slice_cmp nat_cmp key k) (filter_in key ms) (filter_at d) (filter_in key ms)

  -- the filters of the list at a key
  pub filters_in : List ℕ → Members → Option Conditions
  filters_in key no_members = None
  filters_in key (member k d ms) = match_ordering (slice_cmp nat_cmp key k) (filters_in key ms) (filters_at d) (filters_in key ms)

  -- the filters of a list
  pub filters_at : Data → Option Conditions
  filters_at null = None
  filters_at (boolean b) = None
  filters_at (number n) = None
  filters_at (string s) = None
  filters_at (array ds) = each_filter ds
  filters_at (object ms) = None

  pub each_filter : Items → Option Conditions
  each_filter no_items = Some no_conditions
  each_filter (item d ds) = filter_at d >>= λ c. each_filter ds >>= λ cs. Some (condition c cs)
