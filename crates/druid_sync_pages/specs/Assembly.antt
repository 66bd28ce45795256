-- The pages of a snapshot, put together as they come: in any order, more than once, and of several marks.
use Rattle.std.specs.Prelude.{◌≡◌, ◌≢◌, ◌⊎◌, ℕ, ◌<◌, ◌≤◌, List, [], ◌∷◌, ◌++◌, length, replicate, Option, Some, None, option_map, slice_get, slice_set, if◌then◌else◌}
use Rattle.std.specs.Ordering.{is_lt}
use Rattle.std.specs.declared.cmp.Ordering.TheVariants.{Less}
use Rattle.druid_segment_descriptor.specs.Described.{Described}
use Rattle.druid_segment_descriptor.specs.Mark.{Point, mark_cmp}
use Rattle.druid_segment_descriptor.specs.Reply.{max_page, max_pages, AreSorted}
use Rattle.druid_sync_pages.specs.Pages.{page_at, IsCutInto}
use Rattle.druid_sync_pages.specs.declared.fault.PageFault.{PageFault}
use Rattle.druid_sync_pages.specs.declared.fault.PageFault.TheVariants.{Conflict, Memory}

-- of the snapshot at a mark, each page that has come, at its number
pub record Parts : Type 0 where
  pub at : Point
  pub pages : List (Option (List Described))

-- each page that is there has segments, no more than a page may have, and they rise
abbrev pub ArePages : List (Option (List Described)) → Type 0
ArePages pages =
    (page : ℕ) (segments : List Described) → slice_get pages page ≡ Some (Some segments)
    → (1 ≤ length segments) × (length segments ≤ max_page) × AreSorted segments

-- and there are no more of them than a snapshot has
pub record AreParts (pages : List (Option (List Described))) : Type 0 where
  pub not_many : length pages ≤ max_pages
  pub each : ArePages pages

-- no page of so many
abbrev pub no_pages : Point → ℕ → Parts
no_pages at of = record { at = at; pages = replicate of None }

-- one page more
abbrev pub with_page : Parts → ℕ → List Described → Parts
with_page parts page segments = record { at = parts.at; pages = slice_set parts.pages page (Some segments) }

-- the segments of all pages, if all have come
abbrev pub whole_of : List (Option (List Described)) → Option (List Described)
whole_of [] = Some []
whole_of (None ∷ pages) = None
whole_of (Some segments ∷ pages) = option_map (λ rest. segments ++ rest) (whole_of pages)

-- a page as it comes: its mark, its number, of how many it is, and its segments
pub record Page : Type 0 where
  pub at : Point
  pub page : ℕ
  pub of : ℕ
  pub segments : List Described

-- it is one of several, but not of too many, and its segments are no more than a page may have, and rise
pub record IsPage (p : Page) : Type 0 where
  pub several : 2 ≤ p.of
  pub not_many : p.of ≤ max_pages
  pub within : p.page < p.of
  pub some : 1 ≤ length p.segments
  pub few : length p.segments ≤ max_page
  pub sorted : AreSorted p.segments

-- there are pages of a later mark
abbrev pub IsOutdated : Option Parts → Page → Type 0
IsOutdated old p = (parts : Parts) × (old ≡ Some parts) × (mark_cmp p.at parts.at ≡ Less)

-- the pages that it belongs to: those that are there, or none where these are of an earlier mark
abbrev pub parts_for : Option Parts → Page → Parts
parts_for None p = no_pages p.at p.of
parts_for (Some parts) p = if is_lt (mark_cmp parts.at p.at) then no_pages p.at p.of else parts

-- it has come before
abbrev pub IsThere : Parts → Page → Type 0
IsThere parts p = (length parts.pages ≡ p.of) × (slice_get parts.pages p.page ≡ Some (Some p.segments))

-- it has not come, and the snapshot has as many pages as it says
abbrev pub IsLacking : Parts → Page → Type 0
IsLacking parts p = (length parts.pages ≡ p.of) × (slice_get parts.pages p.page ≡ Some None)

-- with it all pages are there, and these are their segments
abbrev pub Completes : Parts → Page → List Described → Type 0
Completes parts p set = whole_of (with_page parts p.page p.segments).pages ≡ Some set

-- it is of another number of pages, or has other segments than when it came before, or once all are there they do not rise
abbrev pub Conflicts : Parts → Page → Type 0
Conflicts parts p =
    (length parts.pages ≢ p.of)
    ⊎ ((segments : List Described) × (slice_get parts.pages p.page ≡ Some (Some segments)) × (segments ≢ p.segments))
    ⊎ ((set : List Described) × IsLacking parts p × Completes parts p set × (AreSorted set → ⊥))

-- the pages that are there after it, where it is not outdated and does not conflict: it is put to the others, and where it
-- completes them they are given, and none is kept
abbrev pub Puts : Parts → Page → Option (List Described) → Option Parts → Type 0
Puts parts p None new =
    (IsThere parts p × (new ≡ Some parts))
    ⊎ (IsLacking parts p × (whole_of (with_page parts p.page p.segments).pages ≡ None) × (new ≡ Some (with_page parts p.page p.segments)))
Puts parts p (Some set) new = IsLacking parts p × Completes parts p set × AreSorted set × (new ≡ None)

-- what is given for a page, and which pages are there after it
abbrev pub Takes : Option Parts → Page → Option (List Described) → Option Parts → Type 0
Takes old p given new =
    (IsOutdated old p × (given ≡ None) × (new ≡ old))
    ⊎ ((IsOutdated old p → ⊥) × Puts (parts_for old p) p given new)

-- why a page is not taken; out of memory only where it would be
abbrev pub Refuses : Option Parts → Page → PageFault → Type 0
Refuses old p Conflict = (IsOutdated old p → ⊥) × Conflicts (parts_for old p) p
Refuses old p Memory = (given : Option (List Described)) × (new : Option Parts) × Takes old p given new

-- ---- the pages of one set

-- the set has so many pages, and each that is there is one of them
pub record AreOf (set : List Described) (parts : Parts) : Type 0 where
  pub count : IsCutInto (length set) (length parts.pages)
  pub each : (page : ℕ) (segments : List Described) → slice_get parts.pages page ≡ Some (Some segments) → segments ≡ page_at set page

-- it is one of them
pub record IsPageOf (set : List Described) (p : Page) : Type 0 where
  pub count : IsCutInto (length set) p.of
  pub segments : p.segments ≡ page_at set p.page
