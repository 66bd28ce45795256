use Rattle.std.proofs.Common.{◌≡◌, List, [], subst}
use Rattle.std.specs.List.{Contains}
use Rattle.std.specs.Option.{MatchOption}
use Rattle.druid_segment_id.specs.Group.{Group, group_of}
use Rattle.druid_timeline_chunks.specs.Chunks.{Chunk, HasNoChunk, members_at}
use Rattle.druid_timeline_chunks.proofs.ChunkLemmas.{of_option, members_at-none, members_at-of}
use Rattle.druid_timeline_chunks.proofs.chunks.Chunks.chunk_of.Goals as goal

pub returns-clause-found : goal.returns-clause-found
returns-clause-found c =
    let chunks = c.args.self.now in
    let g : Group = group_of c.args.id.now in
    of_option c.find_in.result (HasNoChunk chunks g) (members_at chunks g ≡ []) (λ chunk. Contains chunks chunk.now × (chunk.now.0 ≡ g)) (λ chunk. chunk.now.1 ≡ members_at chunks g)
    (members_at-none chunks g) (λ chunk found. members_at-of chunks c.ordered.ensures.ordered.are g chunk.now found.0 found.1)
    (subst (λ (p : List Chunk × Group). MatchOption c.find_in.result (HasNoChunk p.0 p.1) (λ chunk. Contains p.0 chunk.now × (chunk.now.0 ≡ p.1)))
    (λ i. (c.ordered.ensures.value i, record { interval = c.interval.ensures.value i; version = c.version.ensures.value i })) c.find_in.ensures)
