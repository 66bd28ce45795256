-- The limits of a query, as numbers.
use Rattle.std.specs.Prelude.{ℕ}

-- the most intervals of a query
abbrev pub max_intervals : ℕ
max_intervals = 1000

-- the most dimensions
abbrev pub max_dimensions : ℕ
max_dimensions = 16

-- the most aggregators
abbrev pub max_aggregators : ℕ
max_aggregators = 16

-- the most filters in one filter, itself too
abbrev pub max_members : ℕ
max_members = 1000

-- how deep filters may stand in one another
abbrev pub max_levels : ℕ
max_levels = 50

-- the most values of an `in`
abbrev pub max_values : ℕ
max_values = 1000

-- the most bytes of a name
abbrev pub max_label : ℕ
max_label = 100

-- the most bytes of a value
abbrev pub max_value : ℕ
max_value = 1024
