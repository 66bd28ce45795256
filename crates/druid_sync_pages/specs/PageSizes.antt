-- How a page fits those that have come: only proofs use this.
use Rattle.std.specs.Prelude.{◌≡◌, ◌≢◌, ℕ, ◌+◌, ◌<◌, List, length, Option, Some, None, Result, Ok, Err, slice_get, slice_index_or}
use Rattle.druid_segment_descriptor.specs.Described.{Described}
use Rattle.std.specs.declared.cmp.Ordering.{Ordering}
use Rattle.std.specs.declared.cmp.Ordering.TheVariants.{Less}
use Rattle.druid_segment_descriptor.specs.Mark.{Point, mark_cmp}
use Rattle.druid_segment_descriptor.specs.Reply.{AreSorted, IsBefore}
use Rattle.druid_sync_pages.specs.Assembly.{Parts, Page, IsThere, IsLacking, Completes, Conflicts, Puts, with_page, whole_of}
use Rattle.druid_sync_pages.specs.declared.fault.PageFault.{PageFault}
use Rattle.druid_sync_pages.specs.declared.fault.PageFault.TheVariants.{Conflict, Memory}
use Rattle.druid_sync_pages.specs.declared.parts.Fit.{Fit}
use Rattle.druid_sync_pages.specs.declared.parts.Fit.TheVariants.{There, Lacking, Last}

-- all pages have come
abbrev pub AllThere : List (Option (List Described)) → Type 0
AllThere pages = (place : ℕ) → place < length pages → slice_get pages place ≢ Some None

-- all pages but one have come
abbrev pub OthersThere : List (Option (List Described)) → ℕ → Type 0
OthersThere pages page = (place : ℕ) → place < length pages → place ≢ page → slice_get pages place ≢ Some None

-- the last of the first ones comes before the first of the others
abbrev pub EndsBefore : List Described → List Described → Type 0
EndsBefore a b = (n : ℕ) (d : Described) → n + 1 ≡ length a → IsBefore (slice_index_or a n d) (slice_index_or b 0 d)

-- what is found of a page
abbrev pub FitsAs : Parts → Page → Result Fit PageFault → Type 0
FitsAs parts p (Ok There) = IsThere parts p
FitsAs parts p (Ok Lacking) = IsLacking parts p × (whole_of (with_page parts p.page p.segments).pages ≡ None)
FitsAs parts p (Ok Last) = IsLacking parts p × AllThere (with_page parts p.page p.segments).pages × (set : List Described) × Completes parts p set × AreSorted set
FitsAs parts p (Err Conflict) = Conflicts parts p
FitsAs parts p (Err Memory) = ⊥

-- how the mark of the pages that have come stands to a mark; none have come of a mark before all
abbrev pub Compares : Option Parts → Point → Ordering → Type 0
Compares None at order = order ≡ Less
Compares (Some parts) at order = order ≡ mark_cmp parts.at at

-- a page of the mark of those that have come is put to them
abbrev pub PutsIn : Option Parts → Page → Option (List Described) → Option Parts → Type 0
PutsIn old p given new = (parts : Parts) × (old ≡ Some parts) × (parts.at ≡ p.at) × Puts parts p given new

-- or refused
abbrev pub RefusesIn : Option Parts → Page → PageFault → Type 0
RefusesIn old p Conflict = (parts : Parts) × (old ≡ Some parts) × (parts.at ≡ p.at) × Conflicts parts p
RefusesIn old p Memory = (given : Option (List Described)) × (new : Option Parts) × PutsIn old p given new
