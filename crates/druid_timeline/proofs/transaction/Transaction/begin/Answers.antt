use Rattle.std.proofs.Common.{◌∙◌, List, map, sym, ap, subst}
use Rattle.std.specs.Vec.{vec_capacity}
use Rattle.druid_timeline_chunks.specs.Chunks.{Chunk}
use Rattle.druid_timeline.specs.Chunks.{held_in}
use Rattle.druid_timeline.specs.Holding.{Serving, members_of}
use Rattle.druid_timeline.specs.Pieces.{ArePieces, shown_at}
use Rattle.druid_timeline.proofs.ChunkLemmas.{members_of-held_in}
use Rattle.druid_timeline.proofs.UndoLemmas.{TakesBack-none}
use Rattle.druid_timeline.proofs.transaction.Transaction.begin.Goals as goal

pub invariant_of-result : goal.invariant_of-result
invariant_of-result c = (
  subst (λ (cs : List Chunk). ArePieces (held_in cs) (map shown_at c.timeline.inside.runs.items)) (sym c.begin.ensures.now) c.timeline.invariant,
  TakesBack-none c.timeline.inside.chunks c.begin.result.before c.timeline.inside.runs.items (vec_capacity c.timeline.inside.runs) c.new.result.items c.as_slice.ensures.chunks c.begin.ensures.before c.new.ensures.items c.timeline.invariant,
)

pub returns-clause-before : goal.returns-clause-before
returns-clause-before c g =
    c.begin.ensures.before g ∙ sym (members_of-held_in c.timeline.inside.chunks c.as_slice.ensures.chunks g) ∙ ap (λ (s : Serving). members_of s.held g) c.timeline.view_is
