-- Groups of segments, and which of two groups outranks the other.
use Rattle.std.specs.Prelude.{◌≡◌, ℕ, Bool, ◌&&◌, ◌==◌, List, bytes_eq}
use Rattle.std.specs.Ordering.{nat_cmp, ordering_then}
use Rattle.std.specs.Cmp.Lexicographic.{slice_cmp}
use Rattle.std.specs.declared.cmp.Ordering.{Ordering}
use Rattle.std.specs.declared.cmp.Ordering.TheVariants.{Greater}
use Rattle.druid_time.specs.Extent.{Extent, IsExtent}
use Rattle.druid_segment_id.specs.Names.{IsVersion}
use Rattle.druid_segment_id.specs.Identifier.{Identifier}

-- the segments of a data source that share interval and version
pub record Group : Type 0 where
  pub interval : Extent
  pub version : List ℕ

-- each part is one
pub record IsGroup (g : Group) : Type 0 where
  pub interval : IsExtent g.interval
  pub version : IsVersion g.version

-- the group of a segment, within its source
abbrev pub group_of : Identifier → Group
group_of id = record { interval = id.interval; version = id.version }

-- the test of equal groups
abbrev pub same_group : Group → Group → Bool
same_group g h =
    g.interval.start == h.interval.start && g.interval.end == h.interval.end && bytes_eq g.version h.version

-- the order of ranks: by the bytes of the version, then by start, then by end
abbrev pub rank_cmp : Group → Group → Ordering
rank_cmp g h =
    ordering_then (slice_cmp nat_cmp g.version h.version)
    (ordering_then (nat_cmp g.interval.start h.interval.start) (nat_cmp g.interval.end h.interval.end))

-- where both are complete, g is seen
abbrev pub Outranks : Group → Group → Type 0
Outranks g h = rank_cmp g h ≡ Greater
