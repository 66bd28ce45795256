-- The pieces of all partitions, of which a plan keeps those that some node serves: only proofs use this.
use Rattle.std.specs.Prelude.{◌≡◌, ◌==◌, ℕ, Bool, not, List, map, length, Contains, ◌↔◌}
use Rattle.std.specs.List.{flat_map}
use Rattle.std.specs.List.Sorted.{IsStrictlyIncreasing}
use Rattle.druid_segment_id.specs.Group.{group_of}
use Rattle.druid_timeline_members.specs.Members.{HasPartition}
use Rattle.druid_timeline.specs.Holding.{Held, Serving, members_of, ServesRows}
use Rattle.druid_timeline.specs.Pieces.{Shown, Reported}
use Rattle.druid_query.specs.Asked.{Asked}
use Rattle.druid_broker_scatter.specs.Plan.{Pair}

-- a partition of a chunk of the source, in the piece
abbrev pub asked_at : List ℕ → Reported → ℕ → Asked
asked_at source t p = (record { source = source; interval = t.group.interval; version = t.group.version; partition = p }, t.interval)

-- each partition of the chunk
abbrev pub asked_for : List ℕ → Reported → List Asked
asked_for source t = map (asked_at source t) t.parts

abbrev pub asked_in : List ℕ → List Reported → List Asked
asked_in source reported = flat_map (asked_for source) reported

-- the piece is one of a partition of the chunk that is visible in just that piece, whether or not a node serves rows of it
pub record IsPart (source : List ℕ) (held : List Held) (pieces : List Shown) (a : Asked) : Type 0 where
  pub of_source : a.0.source ≡ source
  pub shown : Contains pieces (record { interval = a.1; group = group_of a.0 })
  pub member : HasPartition (members_of held (group_of a.0)) a.0.partition

-- some node serves rows of it
abbrev pub has_nodes : Pair → Bool
has_nodes p = not (length p.nodes == 0)

-- the nodes are those that serve rows of the segment by the timeline, rising
pub record IsServedBy (serving : Serving) (p : Pair) : Type 0 where
  pub rising : IsStrictlyIncreasing p.nodes
  pub all : (n : ℕ) → Contains p.nodes n ↔ ServesRows serving n p.asked.0
