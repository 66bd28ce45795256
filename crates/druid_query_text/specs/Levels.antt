-- A filter seen one level deep, as the reader takes it: only proofs use this.
use Rattle.std.specs.Prelude.{ℕ, ◌<◌, ◌-◌, ◌==◌, ◌||◌, ◌&&◌, nat_le, Bool, length, List, codes, Option, Some, None, option_map, option_and_then, if◌then◌else◌}
use Rattle.std.specs.List.{list_all}
use Rattle.std.specs.Str.{bytes_eq}
use Rattle.serde_json.specs.Data.{Data, Items, depth, items_depth}
use Rattle.serde_json.specs.Find.{get, as_array}
use Rattle.serde_json.specs.View.{view, items_view}
use Rattle.druid_base.specs.Options.{◌>>=◌}
use Rattle.druid_filter.specs.Filters.{Condition, has, has_among, all_of, any_of, is_not, Conditions, no_conditions, condition}
use Rattle.druid_query.specs.Query.{is_label, is_short}
use Rattle.druid_query.specs.Limits.{max_values}
use Rattle.druid_base.specs.Each.{each_of}
use Rattle.druid_base.specs.Fields.{text_or_null, text_at}
use Rattle.druid_query.specs.Filters.{filter_at, each_filter}
use Rattle.druid_query_text.specs.Found.{holds_in}
use Rattle.druid_query_text.specs.declared.filter.FilterLevel.{FilterLevel}
use Rattle.druid_query_text.specs.declared.filter.FilterLevel.TheVariants as levels

-- a filter, where the filters inside are still values
pub data Layer : Type 0 where
  selector : (dimension : List ℕ) (value : Option (List ℕ)) → Layer
  among : (dimension : List ℕ) (values : Items) → Layer
  all : (fields : Items) → Layer
  any : (fields : Items) → Layer
  negation : (field : Data) → Layer

abbrev pub selector_layer : Data → Option Layer
selector_layer d = do
  dimension ← text_at (codes "dimension") d
  value ← option_and_then text_or_null (get (codes "value") d)
  Some (selector dimension value)

abbrev pub among_layer : Data → Option Layer
among_layer d = do
  dimension ← text_at (codes "dimension") d
  values ← option_and_then as_array (get (codes "values") d)
  Some (among dimension values)

abbrev pub fields_at : Data → Option Items
fields_at d = option_and_then as_array (get (codes "fields") d)

unfoldable pub layer_named : List ℕ → Data → Option Layer
layer_named kind d =
    if bytes_eq kind (codes "selector") then selector_layer d
    else (if bytes_eq kind (codes "in") then among_layer d
    else (if bytes_eq kind (codes "and") then option_map all (fields_at d)
    else (if bytes_eq kind (codes "or") then option_map any (fields_at d)
    else (if bytes_eq kind (codes "not") then option_map negation (get (codes "field") d)
    else None))))

unfoldable pub layer_at : Data → Option Layer
layer_at d = do
  kind ← text_at (codes "type") d
  layer_named kind d

-- the filter, where the filters inside are read
abbrev pub layer_says : Layer → Option Condition
layer_says (selector dimension value) = Some (has dimension value)
layer_says (among dimension values) = option_map (has_among dimension) (each_of text_or_null values)
layer_says (all fields) = option_map all_of (each_filter fields)
layer_says (any fields) = option_map any_of (each_filter fields)
layer_says (negation field) = option_map is_not (filter_at field)

-- what is inside nests less deep than this
abbrev pub IsWithin : ℕ → Layer → Type 0
IsWithin deep (selector dimension value) = Unit {0}
IsWithin deep (among dimension values) = Unit {0}
IsWithin deep (all fields) = items_depth fields < deep
IsWithin deep (any fields) = items_depth fields < deep
IsWithin deep (negation field) = depth field < deep

-- a level as the reader borrows it
abbrev pub layer_of : FilterLevel → Layer
layer_of (levels.Selector dimension value) = selector dimension.now (option_map (λ s. s.now) value)
layer_of (levels.Among dimension values) = among dimension.now (items_view values.now)
layer_of (levels.All fields) = all (items_view fields.now)
layer_of (levels.Any fields) = any (items_view fields.now)
layer_of (levels.Not field) = negation (view field.now)

-- ---- room for filters

-- a filter more takes a level and a place
abbrev pub is_full : ℕ → ℕ → Bool
is_full deep room = deep == 0 || room == 0

abbrev pub leaf : Bool → ℕ → Option ℕ
leaf fits room = if fits then Some (room - 1) else None

-- the places that a filter leaves of these, where it nests no deeper than this and no text is too long
abbrev mutual
  pub left_after : Condition → ℕ → ℕ → Option ℕ
  left_after (has dimension value) deep room = if is_full deep room then None else leaf (is_label dimension && is_short value) room
  left_after (has_among dimension values) deep room =
      if is_full deep room then None else leaf (is_label dimension && nat_le (length values) max_values && list_all is_short values) room
  left_after (all_of cs) deep room = if is_full deep room then None else all_left cs (deep - 1) (room - 1)
  left_after (any_of cs) deep room = if is_full deep room then None else all_left cs (deep - 1) (room - 1)
  left_after (is_not c) deep room = if is_full deep room then None else left_after c (deep - 1) (room - 1)

  pub all_left : Conditions → ℕ → ℕ → Option ℕ
  all_left no_conditions deep room = Some room
  all_left (condition c cs) deep room = left_after c deep room >>= λ left. all_left cs deep left

abbrev pub fits_among : List ℕ → Items → Bool
fits_among dimension values = holds_in (λ wanted. is_label dimension && nat_le (length wanted) max_values && list_all is_short wanted) (each_of text_or_null values)
