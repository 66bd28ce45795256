use Rattle.std.proofs.Common.{◌∙◌, List, map, sym, ap, subst}
use Rattle.druid_timeline_chunks.specs.Chunks.{members_at}
use Rattle.druid_timeline.specs.Chunks.{held_in}
use Rattle.druid_timeline.specs.Pieces.{ArePieces, shown_at}
use Rattle.druid_timeline.specs.Transactions.{Edited}
use Rattle.druid_timeline.proofs.ChunkLemmas.{members_of-held_in}
use Rattle.druid_timeline.proofs.SweepLemmas.{Run}
use Rattle.druid_timeline.proofs.transaction.Transaction.roll_back.Goals as goal

pub invariant_of-result : goal.invariant_of-result
invariant_of-result c =
    subst (λ (runs : List Run). ArePieces (held_in c.roll_back-chunks.result) (map shown_at runs)) (sym c.take_back.ensures)
    (c.self.invariant.1.pieces c.roll_back-chunks.result c.as_slice.ensures.chunks c.roll_back-chunks.ensures)

pub returns-clause-before : goal.returns-clause-before
returns-clause-before c g =
    members_of-held_in c.roll_back-chunks.result c.as_slice.ensures.chunks g ∙ c.roll_back-chunks.ensures g ∙ ap (λ (e : Edited). members_at e.before g) c.self.view_is
