-- What is held, kept by chunk: only proofs use this.
use Rattle.std.specs.Prelude.{List, map}
use Rattle.std.specs.List.{flat_map}
use Rattle.druid_segment_id.specs.Group.{Group}
use Rattle.druid_timeline_members.specs.Members.{Member}
use Rattle.druid_timeline_chunks.specs.Chunks.{Chunk}
use Rattle.druid_timeline.specs.Holding.{Held}

-- a member of a chunk
abbrev pub held_at : Group → Member → Held
held_at g m = record { group = g; member = m }

-- the members of each chunk
abbrev pub held_in : List Chunk → List Held
held_in chunks = flat_map (λ chunk. map (held_at chunk.0) chunk.1) chunks
