use Rattle.std.proofs.Common.{◌∙◌, sym}
use Rattle.druid_timeline_chunks.proofs.ChunkLemmas.{any-Contains}
use Rattle.druid_timeline_chunks.proofs.chunks.Chunks.holds.Goals as goal

pub returns-clause-held : goal.returns-clause-held
returns-clause-held c =
    let any = any-Contains c.replicas.result.now c.args.node in
    let nodes = c.replicas.ensures.nodes c.args.node in
    (λ reported. nodes.0 (any.0 (sym c.contains.ensures.value ∙ reported)), λ held. c.contains.ensures.value ∙ any.1 (nodes.1 held))
