-- Texts that have numbers, from 1 on; a text may have several.
use Rattle.std.specs.Prelude.{◌≡◌, ◌↔◌, ⊤, ℕ, zero, suc, ◌-◌, ◌≤◌, ◌<◌, List, [], ◌∷◌, ◌++◌, length, map, slice_index_or, set, Some, All, Contains, String, string_bytes}
use Rattle.std.specs.Global.{Global}
use Rattle.std.specs.List.{AllByRecursion}
use Rattle.std.specs.List.Sorted.{IsStrictlySortedBy}
use Rattle.std.specs.Ordering.{nat_cmp}
use Rattle.std.specs.declared.cmp.Ordering.TheVariants.{Less}
use Rattle.std.specs.Cmp.Lexicographic.{slice_cmp}
use Rattle.druid_segment_rows.specs.Columns.{value_at}

abbrev pub Entry : Type 0
Entry = String Global × ℕ

-- the texts of these entries
abbrev pub texts_in : List Entry → List (List ℕ)
texts_in entries = map (λ (entry : Entry). string_bytes entry.0) entries

-- they have the numbers from 1 on
abbrev pub AreNumbered : List Entry → Type 0
AreNumbered entries = (place : ℕ) (default : Entry) → place < length entries → (slice_index_or entries place default).1 ≡ suc place

-- the code among the texts in order of what had a number
abbrev pub code_by_rank : List ℕ → ℕ → ℕ
code_by_rank ranks zero = 0
code_by_rank ranks (suc k) = slice_index_or ranks k 0

-- with a mark at a code that is not that of null
abbrev pub with_mark : List ℕ → ℕ → List ℕ
with_mark ranks zero = ranks
with_mark ranks (suc k) = set ranks k 1

-- the numbers that have a mark are those that the codes have
abbrev pub AreMarked : List ℕ → List ℕ → Type 0
AreMarked codes ranks = (place : ℕ) → place < length ranks → 0 < slice_index_or ranks place 0 ↔ Contains codes (suc place)

-- no text is below one before it
abbrev pub AreRising : List (List ℕ) → Type 0
AreRising [] = ⊤
AreRising (text ∷ texts) = AllByRecursion (λ later. slice_cmp nat_cmp later text ≡ Less → ⊥) texts × AreRising texts

-- Of texts by number and the codes that rows have, those in front have their place among the values, each once, in the
-- order of their bytes, and these entries are left.
pub record HavePlaces (texts : List (List ℕ)) (codes : List ℕ) (left : List Entry) (values : List (List ℕ)) (ranks : List ℕ) : Type 0 where
  pub rising : AreRising (values ++ texts_in left)
  pub apart : IsStrictlySortedBy (slice_cmp nat_cmp) values
  pub occur : All (λ text. Contains (map (value_at texts) codes) (Some text)) values
  pub long : length ranks ≡ length texts
  pub numbers : All (λ entry. (1 ≤ entry.1) × (entry.1 ≤ length texts) × (value_at texts entry.1 ≡ Some (string_bytes entry.0))) left
  pub marks : AreMarked codes ranks
  pub places : (code : ℕ) → 1 ≤ code → Contains codes code → All (λ entry. entry.1 ≡ code → ⊥) left
      → (slice_index_or ranks (code - 1) 0 ≤ length values) × (value_at values (slice_index_or ranks (code - 1) 0) ≡ value_at texts code)
