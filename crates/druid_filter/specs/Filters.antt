-- Filters of rows.
use Rattle.std.specs.Prelude.{ℕ, List, [], ◌∷◌, map, Bool, true, false, ◌&&◌, ◌||◌, not, Option, None, option_map, if◌then◌else◌, string_bytes}
use Rattle.std.specs.Box.{box_value}
use Rattle.std.specs.List.{list_any}
use Rattle.std.specs.Option.{option_eq}
use Rattle.std.specs.Str.{bytes_eq}
use Rattle.druid_filter.specs.Values.{nullable_texts_of}
use Rattle.druid_filter.specs.declared.filter.Filter.{Filter, fold-Filter}
use Rattle.druid_filter.specs.declared.filter.Filter.TheOpen.{Filter-F}

-- what a row has to be like. A value is a text or null
mutual
  pub data Condition : Type 0 where
    -- the dimension has this value
    has : (dimension : List ℕ) (value : Option (List ℕ)) → Condition
    -- the dimension has one of these values
    has_among : (dimension : List ℕ) (values : List (Option (List ℕ))) → Condition
    all_of : Conditions → Condition
    any_of : Conditions → Condition
    is_not : Condition → Condition

  pub data Conditions : Type 0 where
    no_conditions : Conditions
    condition : Condition → Conditions → Conditions

-- two values are the same; null and the empty text are not
abbrev pub same_value : Option (List ℕ) → Option (List ℕ) → Bool
same_value = option_eq bytes_eq

-- whether a row passes whose dimensions have these values. Of no conditions all hold, and not any
abbrev mutual
  pub passes : (List ℕ → Option (List ℕ)) → Condition → Bool
  passes value (has dimension wanted) = same_value (value dimension) wanted
  passes value (has_among dimension wanted) = list_any (same_value (value dimension)) wanted
  passes value (all_of cs) = all_pass value cs
  passes value (any_of cs) = any_passes value cs
  passes value (is_not c) = not (passes value c)

  pub all_pass : (List ℕ → Option (List ℕ)) → Conditions → Bool
  all_pass value no_conditions = true
  all_pass value (condition c cs) = passes value c && all_pass value cs

  pub any_passes : (List ℕ → Option (List ℕ)) → Conditions → Bool
  any_passes value no_conditions = false
  any_passes value (condition c cs) = passes value c || any_passes value cs

-- the value of the dimension of that name, among the names of the dimensions and a row's values of them; null where
-- there is no such dimension, or no value
abbrev pub value_in : List (List ℕ) → List (Option (List ℕ)) → List ℕ → Option (List ℕ)
value_in [] values name = None
value_in (n ∷ names) [] name = None
value_in (n ∷ names) (v ∷ values) name = if bytes_eq n name then v else value_in names values name

-- ---- what a `Filter` says

abbrev pub conditions_of : List Condition → Conditions
conditions_of [] = no_conditions
conditions_of (c ∷ cs) = condition c (conditions_of cs)

-- one level, where each filter inside is already seen as what it says
abbrev pub condition_step : Filter-F Condition → Condition
condition_step (Filter-F.Selector dimension value) = has (string_bytes dimension) (option_map string_bytes value)
condition_step (Filter-F.Among dimension values) = has_among (string_bytes dimension) (nullable_texts_of values.items)
condition_step (Filter-F.All filters) = all_of (conditions_of filters.items)
condition_step (Filter-F.Any filters) = any_of (conditions_of filters.items)
condition_step (Filter-F.Not c) = is_not (box_value c)

abbrev pub says : Filter → Condition
says = fold-Filter Condition condition_step

abbrev pub each_says : List Filter → Conditions
each_says filters = conditions_of (map says filters)
