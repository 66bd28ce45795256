-- Partitions that one lookup has taken already: only proofs use this.
use Rattle.std.specs.Prelude.{ℕ, List, IfSome}
use Rattle.std.specs.HashMap as hash
use Rattle.std.specs.HashMap.{HashMap}
use Rattle.druid_segment_id.specs.Group.{Group, same_group}
use Rattle.druid_timeline_chunks.specs.Chunks.{Chunk, members_at}
use Rattle.druid_timeline.specs.Pieces.{ArePartitions}

-- what the map has of a chunk are the partitions of its members
abbrev pub AreKnown : {S : Type 0} → List Chunk → HashMap Group (List ℕ) S → Type 0
AreKnown chunks known = (g : Group) → IfSome (hash.get same_group known g) (ArePartitions (members_at chunks g))
