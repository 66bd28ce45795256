-- A timeline under edits that can be taken back.
use Rattle.std.specs.Prelude.{List}
use Rattle.druid_timeline_chunks.specs.Chunks.{Chunk}
use Rattle.druid_timeline.specs.Holding.{Serving}

-- chunks that tell the members of each group before the edits, and what is served after them
pub record Edited : Type 0 where
  pub before : List Chunk
  pub now : Serving
