-- Groups of all rows that a query asks of several segments, in one array. Only proofs and private functions use this: what it
-- means is in Groups.
use Rattle.std.specs.Prelude.{◌≡◌, ℕ, ◌+◌, ◌*◌, ◌<◌, ◌≤◌, List, [], ◌∷◌, ◌++◌, length, map, slice_get, All, IfSome, Option, Some, None, option_map, ⊤}
use Rattle.std.specs.Borrow.{Bor}
use Rattle.std.specs.List.{flat_map}
use Rattle.std.specs.List.Sorted.{IsStrictlySortedBy}
use Rattle.std.specs.Ordering.{nat_cmp}
use Rattle.std.specs.Cmp.Lexicographic.{slice_cmp}
use Rattle.druid_time.specs.declared.granularity.Granularity.TheVariants as granularity
use Rattle.druid_segment_rows.specs.Columns.{value_at}
use Rattle.druid_segment_rows.specs.Segment.{Segment, row_at}
use Rattle.druid_query.specs.Query.{Query}
use Rattle.druid_query.specs.declared.aggregator.AggregatorKind.{AggregatorKind}
use Rattle.druid_partial.specs.Groups.{Group, Key}
use Rattle.druid_partial.specs.Partials.{earliest, kinds_of, HasNumbers}
use Rattle.druid_partial_scan.specs.Places.{at_place, places_of}
use Rattle.druid_partial_scan.specs.Cells.{Column, code_at, HasCode, join_into, Filled, Cells}
use Rattle.druid_partial_scan.specs.SliceGroups.{Slice, slice_groups}
use Rattle.druid_partial_scan.specs.Scans.{Scan, AreCounted, HasRoom}

-- ---- values by codes of the query

-- the texts of each dimension of a query
abbrev pub Texts : Type 0
Texts = List (List (List ℕ))

abbrev pub borrowed_texts : List (Bor (List ℕ)) → List (List ℕ)
borrowed_texts texts = map (λ (t : Bor (List ℕ)). t.now) texts

abbrev pub texts_in : List (Bor (List (Bor (List ℕ)))) → Texts
texts_in lists = map (λ (l : Bor (List (Bor (List ℕ)))). borrowed_texts l.now) lists

abbrev pub IsRising : List (List ℕ) → Type 0
IsRising texts = IsStrictlySortedBy (slice_cmp nat_cmp) texts

-- null, and then these texts
abbrev pub values_in : List (List ℕ) → List (Option (List ℕ))
values_in texts = None ∷ map (λ t. Some t) texts

-- a column whose codes stand for these texts
pub record IsCoded (segment : Segment) (texts : List (List ℕ)) (place : Option ℕ) (c : Column) : Type 0 where
  pub has : (row : ℕ) → row < length segment.rows → HasCode row c
  pub wide : c.size ≡ length texts + 1
  pub value : (row : ℕ) → row < length segment.rows → value_at texts (code_at c row) ≡ at_place (row_at segment row).dimensions place

-- one for each place
abbrev pub AreCoded : Segment → Texts → List (Option ℕ) → List Column → Type 0
AreCoded segment [] [] [] = ⊤
AreCoded segment [] [] (c ∷ cs) = ⊥
AreCoded segment [] (p ∷ ps) cs = ⊥
AreCoded segment (t ∷ ts) [] cs = ⊥
AreCoded segment (t ∷ ts) (p ∷ ps) [] = ⊥
AreCoded segment (t ∷ ts) (p ∷ ps) (c ∷ cs) = IsCoded segment t p c × AreCoded segment ts ps cs

-- how many numbers there are of codes of these texts
abbrev pub room_over : Texts → ℕ → ℕ
room_over [] n = n
room_over (t ∷ ts) n = room_over ts (n * (length t + 1))

-- a scan by codes of these texts, of a query with one bucket
pub record IsOver (texts : Texts) (scan : Scan) : Type 0 where
  pub rising : All IsRising texts
  pub coded : AreCoded scan.segment texts (places_of scan.query scan.segment.fields) scan.columns
  pub one : scan.query.granularity ≡ granularity.All

-- ---- groups at the numbers that their codes make

-- a code for each list
abbrev pub Fits : Texts → List ℕ → Type 0
Fits [] [] = ⊤
Fits [] (c ∷ cs) = ⊥
Fits (t ∷ ts) [] = ⊥
Fits (t ∷ ts) (c ∷ cs) = (c ≤ length t) × Fits ts cs

abbrev pub values_of : Texts → List ℕ → List (Option (List ℕ))
values_of [] cs = []
values_of (t ∷ ts) [] = []
values_of (t ∷ ts) (c ∷ cs) = value_at t c ∷ values_of ts cs

abbrev pub number_of : Texts → List ℕ → ℕ → ℕ
number_of [] cs n = n
number_of (t ∷ ts) [] n = n
number_of (t ∷ ts) (c ∷ cs) n = number_of ts cs (n * (length t + 1) + c)

-- a group of the query's bucket at the number of its values
pub record IsHeld (query : Query) (texts : Texts) (place : ℕ) (g : Group) : Type 0 where
  pub bucket_is : g.key.bucket ≡ earliest query.intervals
  pub codes : List ℕ
  pub fits : Fits texts codes
  pub values_are : g.key.values ≡ values_of texts codes
  pub place_is : number_of texts codes 0 ≡ place
  pub numbers : HasNumbers (kinds_of query) g

abbrev pub AreHeld : Query → Texts → List (Option Group) → Type 0
AreHeld query texts cells = (place : ℕ) (g : Group) → slice_get cells place ≡ Some (Some g) → IsHeld query texts place g

-- where the key of each group is kept
abbrev pub group_of : Filled Key → Group
group_of g = record { key = g.0; numbers = g.1 }

abbrev pub groups_held : List (Option (Filled Key)) → List (Option Group)
groups_held groups = map (option_map group_of) groups

-- the groups that are there, in order
abbrev pub present : List (Option Group) → List Group
present [] = []
present (None ∷ cells) = present cells
present (Some g ∷ cells) = g ∷ present cells

-- a group with one of its key joined
abbrev pub with_group : List AggregatorKind → Group → Option Group → Group
with_group kinds g None = g
with_group kinds g (Some d) = record { key = d.key; numbers = join_into kinds g.numbers d.numbers }

-- these groups of rows added
pub record Adds (query : Query) (texts : Texts) (more : List Group) (old new : List (Option Group)) : Type 0 where
  pub held : AreHeld query texts old → AreHeld query texts new
  pub counted : AreHeld query texts old → (rows : List Group) → AreCounted query rows (present old) → AreCounted query (rows ++ more) (present new)

-- the groups of these rows, each in its cell
pub record IsTally (query : Query) (texts : Texts) (rows : List Group) (cells : Cells Key) : Type 0 where
  pub room : HasRoom query (room_over texts 1) cells
  pub held : AreHeld query texts (groups_held cells.groups)
  pub counted : AreCounted query rows (present (groups_held cells.groups))

-- what it takes to count a query's rows by these texts, into an array of so much room
abbrev pub CanTally : Query → List (Bor (List (Bor (List ℕ)))) → ℕ → Type 0
CanTally query lists room =
    (query.granularity ≡ granularity.All) × (length lists ≡ length query.dimensions) × All IsRising (texts_in lists) × (room ≡ room_over (texts_in lists) 1)

-- the groups of what slices tell, where there are any
abbrev pub AreTallied : Query → List (Bor (List (Bor (List ℕ)))) → List Slice → Option (Cells Key) → Type 0
AreTallied query lists slices found = IfSome found (IsTally query (texts_in lists) (flat_map (slice_groups query) slices))
