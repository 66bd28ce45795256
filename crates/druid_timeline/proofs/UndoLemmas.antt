-- A log of exchanges that takes the runs back.
use Rattle.std.proofs.Common.{◌≡◌, ◌≤◌, ℕ, List, [], ◌∷◌, map, reverse, sym, ◌∙◌, subst, arith}
use Rattle.druid_timeline_chunks.specs.Chunks.{Chunk, AreChunks}
use Rattle.druid_timeline.specs.declared.edit.Edit.{Edit}
use Rattle.druid_timeline.specs.Chunks.{held_in}
use Rattle.druid_timeline.specs.Exchanges.{CanUndo, HaveMembersOf, TakesBack, exchanged}
use Rattle.druid_timeline.specs.Pieces.{ArePieces, shown_at}
use Rattle.druid_timeline.proofs.ChunkLemmas.{SameHeld-members}
use Rattle.druid_timeline.proofs.SweepLemmas.{Run}
use Rattle.druid_timeline.proofs.TurnLemmas.{pieces_same}

CanUndo-more : (log : List Edit) (runs : List Run) (old new : ℕ) → old ≤ new → CanUndo log runs old → CanUndo log runs new
CanUndo-more [] runs old new more can = tt
CanUndo-more (edit ∷ log) runs old new more can = (
  let room = can.0.room in record { inside = can.0.inside; room = omega (arith, room, more); place = can.0.place },
  CanUndo-more log (exchanged runs edit) old new more can.1,
)

-- with more room, and where each chunk has the members before that it had
pub TakesBack-more : (old new : List Chunk) (runs runs' : List Run) (room room' : ℕ) (log log' : List Edit) → HaveMembersOf new old → runs' ≡ runs → room ≤ room' → log' ≡ log → TakesBack old runs room log → TakesBack new runs' room' log'
TakesBack-more old new runs runs' room room' log log' same e more f back =
    subst (λ (rs : List Run). TakesBack new rs room' log') (sym e)
    (subst (λ (es : List Edit). TakesBack new runs room' es) (sym f) (record {
      can = CanUndo-more (reverse log) runs room room' more back.can;
      pieces = λ chunks are have. back.pieces chunks are (λ g. have g ∙ same g);
    }))

-- before the first edit
pub TakesBack-none : (old before : List Chunk) (runs : List Run) (room : ℕ) (log : List Edit) → AreChunks old → HaveMembersOf before old → log ≡ [] → ArePieces (held_in old) (map shown_at runs) → TakesBack before runs room log
TakesBack-none old before runs room log are same e pieces =
    subst (λ (es : List Edit). TakesBack before runs room es) (sym e) (record {
      can = tt;
      pieces = λ chunks now have. pieces_same (held_in old) (held_in chunks) (map shown_at runs) (SameHeld-members old chunks are now (λ g. have g ∙ same g)) pieces;
    })
