-- Chunks that other chunks hide.
use Rattle.std.specs.Prelude.{ℕ, List}
use Rattle.std.specs.Ordering.{nat_cmp, ordering_then}
use Rattle.std.specs.Cmp.Lexicographic.{slice_cmp}
use Rattle.std.specs.declared.cmp.Ordering.{Ordering}
use Rattle.druid_time.specs.Extent.{Extent}
use Rattle.druid_segment_id.specs.Group.{Group}
use Rattle.druid_timeline.specs.Holding.{Held, IsCompleteIn}
use Rattle.druid_timeline.specs.Visible.{IsVisible}

-- a complete chunk that is visible at no instant
pub record IsOvershadowed (held : List Held) (g : Group) : Type 0 where
  pub complete : IsCompleteIn held g
  pub unseen : (t : ℕ) → IsVisible held t g → ⊥

-- by start, then by end
abbrev pub interval_cmp : Extent → Extent → Ordering
interval_cmp a b = ordering_then (nat_cmp a.start b.start) (nat_cmp a.end b.end)

-- by the interval, then by the bytes of the version
abbrev pub place_cmp : Group → Group → Ordering
place_cmp g h = ordering_then (interval_cmp g.interval h.interval) (slice_cmp nat_cmp g.version h.version)
