use Rattle.std.proofs.Common.{◌∙◌, rules}
use Rattle.druid_partial_text.proofs.AnswerLemmas.{within_more, piece_next}
use Rattle.druid_partial_text.proofs.answer_writer.push_pieces.Goals as goal

pub loop-piece-preserved : goal.loop-piece-preserved
loop-piece-preserved c =
    let i = c.loop-piece.piece-index in (
      search rules,
      within_more c.args.asked.now i c.piece-item.result (search rules) (search rules) c.in_ok-push_asked.ensures.held c.loop-piece.invariant.1,
      rw (c.in_ok-push_asked.ensures.ok) (piece_next c.loop-piece.out.tokens c.args.asked.now i c.piece-item.result (search rules) (search rules) ∙ c.loop-piece.invariant.2),
    )
