-- Filters over the codes of one segment. Only proofs and private functions use this: what a filter means is in druid_filter.
use Rattle.std.specs.Prelude.{◌≡◌, ◌≤◌, ℕ, ◌==◌, List, [], ◌∷◌, length, map, slice_get, slice_index_or, Bool, true, false, ◌&&◌, ◌||◌, not, Option, Some, None}
use Rattle.std.specs.Box.{box_value}
use Rattle.druid_filter.specs.Filters.{same_value, value_in}
use Rattle.druid_segment_rows.specs.Columns.{value_at}
use Rattle.druid_segment_rows.specs.Segment.{Segment, row_at}
use Rattle.druid_partial_scan.specs.declared.code_filter.CodeFilter.{CodeFilter, fold-CodeFilter}
use Rattle.druid_partial_scan.specs.declared.code_filter.CodeFilter.TheOpen.{CodeFilter-F}

-- which rows pass
abbrev pub Judge : Type 0
Judge = ℕ → Bool

-- it is that code; none is no code
abbrev pub code_is : Option ℕ → ℕ → Bool
code_is None wanted = false
code_is (Some code) wanted = code == wanted

-- it is one of the codes that are marked
abbrev pub code_among : Option ℕ → List Bool → Bool
code_among None marks = false
code_among (Some code) marks = slice_index_or marks code false

abbrev pub all_judge : List Judge → Judge
all_judge [] row = true
all_judge (j ∷ js) row = j row && all_judge js row

abbrev pub any_judges : List Judge → Judge
any_judges [] row = false
any_judges (j ∷ js) row = j row || any_judges js row

abbrev pub judge_step : CodeFilter-F Judge → Judge
judge_step (CodeFilter-F.Same answer) row = answer
judge_step (CodeFilter-F.Is codes wanted) row = code_is (slice_get codes.now row) wanted
judge_step (CodeFilter-F.Among codes marks) row = code_among (slice_get codes.now row) marks.items
judge_step (CodeFilter-F.All code_filters) row = all_judge code_filters.items row
judge_step (CodeFilter-F.Any code_filters) row = any_judges code_filters.items row
judge_step (CodeFilter-F.Not code_filter) row = not (box_value code_filter row)

abbrev pub holds : CodeFilter → Judge
holds = fold-CodeFilter Judge judge_step

abbrev pub all_hold : List CodeFilter → Judge
all_hold code_filters = all_judge (map holds code_filters)

abbrev pub any_holds : List CodeFilter → Judge
any_holds code_filters = any_judges (map holds code_filters)

-- without a filter all rows pass
abbrev pub judge_if : Option CodeFilter → Judge
judge_if None row = true
judge_if (Some code_filter) row = holds code_filter row

-- ---- codes of values

-- whether a code was found, and is that one
abbrev pub found_is : Option ℕ → ℕ → Bool
found_is None code = false
found_is (Some found) code = code == found

-- the code of a value, if a dictionary has it
abbrev pub IsCodeOf : List (List ℕ) → Option (List ℕ) → Option ℕ → Type 0
IsCodeOf texts wanted found = (code : ℕ) → code ≤ length texts → same_value (value_at texts code) wanted ≡ found_is found code

-- a row's value of the dimension of that name
abbrev pub value_of : Segment → ℕ → List ℕ → Option (List ℕ)
value_of segment row name = value_in segment.fields.dimensions (row_at segment row).dimensions name
