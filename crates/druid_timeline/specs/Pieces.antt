-- The visible pieces of a timeline.
use Rattle.std.specs.Prelude.{◌≡◌, ◌≢◌, ℕ, ◌<◌, ◌≤◌, List, [], ◌∷◌, ◌↔◌, ◌⊎◌, Option, option_map, Contains}
use Rattle.std.specs.List.Sorted.{IsStrictlyIncreasing}
use Rattle.druid_timeline_members.specs.Members.{Member, HasPartition}
use Rattle.std.specs.List.{filter_map, flat_map}
use Rattle.druid_time.specs.Extent.{Extent, Has, common}
use Rattle.druid_segment_id.specs.Group.{Group}
use Rattle.druid_timeline.specs.Holding.{Held}
use Rattle.druid_timeline.specs.Visible.{IsVisible}

-- a chunk, and a stretch of time
pub record Shown : Type 0 where
  pub interval : Extent
  pub group : Group

-- a run as a timeline keeps it
abbrev pub shown_at : Extent × Group → Shown
shown_at run = record { interval = run.0; group = run.1 }

-- the stretch is not empty
abbrev pub IsStretch : Shown → Type 0
IsStretch s = s.interval.start < s.interval.end

-- each ends where the next starts, or before, and two that touch are of different chunks
abbrev pub AreRuns : List Shown → Type 0
AreRuns [] = Unit {0}
AreRuns (a ∷ []) = IsStretch a
AreRuns (a ∷ b ∷ more) =
    IsStretch a × (a.interval.end ≤ b.interval.start)
    × (a.interval.end ≡ b.interval.start → a.group ≢ b.group) × AreRuns (b ∷ more)

-- one of the stretches has the instant, and is of the chunk
abbrev pub Shows : List Shown → ℕ → Group → Type 0
Shows [] t g = ⊥
Shows (s ∷ more) t g = ((s.group ≡ g) × Has s.interval t) ⊎ Shows more t g

-- maximal runs of one chunk, in order, that show at each instant of a set what is visible there, and nothing elsewhere
pub record ArePiecesIn (set : ℕ → Type 0) (held : List Held) (pieces : List Shown) : Type 0 where
  pub runs : AreRuns pieces
  pub shows : (t : ℕ) (g : Group) → Shows pieces t g ↔ (set t × IsVisible held t g)

-- the visible pieces, at all instants
abbrev pub ArePieces : List Held → List Shown → Type 0
ArePieces held pieces = ArePiecesIn (λ _. Unit {0}) held pieces

-- the part of a piece that lies in an interval
abbrev pub cut_piece : Extent → Shown → Option Shown
cut_piece part s = option_map (λ e. record { interval = e; group = s.group }) (common part s.interval)

-- pieces cut by parts: for each part in order, what it has in common with each piece, in order
abbrev pub cut : List Extent → List Shown → List Shown
cut parts pieces = flat_map (λ part. filter_map (cut_piece part) pieces) parts

-- a piece as it is returned: with all partitions of the chunk
pub record Reported : Type 0 where
  pub interval : Extent
  pub group : Group
  pub parts : List ℕ

abbrev pub shown_of : Reported → Shown
shown_of t = record { interval = t.interval; group = t.group }

-- rising, and all partitions that a member has
pub record ArePartitions (ms : List Member) (parts : List ℕ) : Type 0 where
  pub rising : IsStrictlyIncreasing parts
  pub all : (p : ℕ) → Contains parts p ↔ HasPartition ms p
