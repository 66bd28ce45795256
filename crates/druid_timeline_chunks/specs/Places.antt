-- Where chunks stand: by the length classes of their intervals, then by start, then by end. Only proofs use this.
use Rattle.std.specs.Prelude.{ℕ, ◌+◌, ◌*◌, ◌-◌, List, All}
use Rattle.std.specs.Int.{w64, leading_zeros}
use Rattle.std.specs.List.Sorted.{IsNonDecreasingBy}
use Rattle.druid_time.specs.Extent.{Extent, IsExtent}
use Rattle.druid_time.specs.Instant.{instant_count}
use Rattle.druid_timeline_chunks.specs.Chunks.{Chunk, AreChunks}

-- the base-2 logarithm of the length in milliseconds, rounded down
abbrev pub length_class : Extent → ℕ
length_class e = 63 - leading_zeros w64 (e.end - e.start)

-- the place of a class, a start and an end, each below n
unfoldable pub place_below : ℕ → ℕ → ℕ → ℕ → ℕ
place_below n class start end = (class * n + start) * n + end

-- the place of an interval
abbrev pub place_of : Extent → ℕ
place_of e = place_below instant_count (length_class e) e.start e.end

abbrev pub chunk_place : Chunk → ℕ
chunk_place chunk = place_of chunk.0.interval

-- chunks in the order of their places, none of an empty interval
pub record AreInOrder (chunks : List Chunk) : Type 0 where
  pub are : AreChunks chunks
  pub valid : All (λ chunk. IsExtent chunk.0.interval) chunks
  pub sorted : IsNonDecreasingBy chunk_place chunks
