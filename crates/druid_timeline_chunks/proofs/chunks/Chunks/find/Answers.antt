use Rattle.std.proofs.Common.{◌≡◌, List, subst}
use Rattle.std.specs.List.{Contains}
use Rattle.std.specs.Option.{MatchOption}
use Rattle.druid_segment_id.specs.Group.{Group}
use Rattle.druid_timeline_chunks.specs.Chunks.{Chunk, HasNoChunk}
use Rattle.druid_timeline_chunks.proofs.chunks.Chunks.find.Goals as goal

pub returns-clause-found : goal.returns-clause-found
returns-clause-found c =
    subst (λ (p : List Chunk × Group). MatchOption c.find_in.result (HasNoChunk p.0 p.1) (λ chunk. Contains p.0 chunk.now × (chunk.now.0 ≡ p.1)))
    (λ i. (c.ordered.ensures.value i, record { interval = c.interval.ensures.value i; version = c.version.ensures.value i })) c.find_in.ensures
