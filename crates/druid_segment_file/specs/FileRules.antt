-- What is found of columns that are judged and not kept.
use Rattle.std.specs.Prelude.{◌≡◌, ◌↔◌, ◌*◌, ◌+◌, ◌<◌, ℕ, ℤ, zero, suc, Bool, true, false, List, [], ◌∷◌, length, map, sum, slice_index_or, Contains, Option, Result, Ok, Err}
use Rattle.druid_segment_rows.specs.Segment.{text_value_length, number_value_length}
use Rattle.druid_segment_file.specs.declared.fault.FileFault.{FileFault}
use Rattle.druid_segment_file.specs.ColumnReader.{Columns, decoded}
use Rattle.druid_segment_file.specs.Reader.{Cursor}

-- the part is what reading gives, and of it this is found; or the fault is the one of reading
abbrev pub Finds : {X A : Type 0} → (X → A → Type 0) → Cursor → Cursor → Result X FileFault → Result (A × List ℕ) FileFault → Type 0
Finds {X} {A} Is old new (Ok x) read = ((part : A) × (read ≡ Ok (part, new.rest)) × Is x part) × (new.short ≡ old.short)
Finds Is old new (Err fault) read = read ≡ Err fault

-- the length in rows of what a code stands for, by the lengths of the texts
abbrev pub code_length : List ℕ → ℕ → ℕ
code_length lens zero = 1
code_length lens (suc k) = 3 + slice_index_or lens k 0

-- a text has a mark where a row has its code
abbrev pub AreMarked : List ℕ → List ℕ → Type 0
AreMarked codes marks = (place : ℕ) → place < length marks → 0 < slice_index_or marks place 0 ↔ Contains codes (suc place)

-- how many rows have a number
abbrev pub ones : List Bool → ℕ
ones [] = 0
ones (false ∷ marks) = ones marks
ones (true ∷ marks) = suc (ones marks)

-- the length in rows of the values of a dimension, and of a metric
abbrev pub texts_length : List (Option (List ℕ)) → ℕ
texts_length values = sum (map text_value_length values)

abbrev pub numbers_length : List (Option ℤ) → ℕ
numbers_length values = sum (map number_value_length values)

-- and of all columns, with the instants
abbrev pub columns_length : Columns → ℕ
columns_length columns =
    8 * length columns.times + sum (map (λ coded. texts_length (decoded coded)) columns.dimensions) + sum (map numbers_length columns.metrics)
