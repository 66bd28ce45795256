use Rattle.std.proofs.Common.{◌↔◌, ◌≤◌, ◌+◌, Bool, List, [], ◌∷◌, length, map, sym, ◌∙◌, subst}
use Rattle.std.specs.Bool.{IsTrue}
use Rattle.std.proofs.lemmas.Bool.{false≢true}
use Rattle.druid_segment_id.specs.Group.{group_of}
use Rattle.druid_timeline_chunks.proofs.EditLemmas.{if_ok_weaker}
use Rattle.druid_timeline.specs.Chunks.{held_in}
use Rattle.druid_timeline.specs.Edited.{ArePiecesThen}
use Rattle.druid_timeline.specs.Exchanges.{settled}
use Rattle.druid_timeline.specs.Holding.{IsCompleteIn}
use Rattle.druid_timeline.specs.Pieces.{cut, shown_at}
use Rattle.druid_timeline.proofs.ChunkLemmas.{IsCompleteIn-at}
use Rattle.druid_timeline.proofs.SweepLemmas.{Run}
use Rattle.druid_timeline.proofs.TurnLemmas.{pieces_level, level_unless, reported_alike, then_complete, not_complete}
use Rattle.druid_timeline.proofs.turn.prepare_edit.Goals as goal

pub returns-then-not-has_turned-clause-pieces : goal.returns-then-not-has_turned-clause-pieces
returns-then-not-has_turned-clause-pieces c =
    let g = group_of c.args.id.now in
    let at = IsCompleteIn-at c.args.chunks.now c.is_complete-was_complete.ensures.chunks g in
    let was : IsTrue c.is_complete-was_complete.result ↔ IsCompleteIn (held_in c.args.chunks.now) g = (λ e. at.1 (c.is_complete-was_complete.ensures.complete.0 e), λ h. c.is_complete-was_complete.ensures.complete.1 (at.0 h)) in
    let same = level_unless c.is_complete-was_complete.result c.args.is_complete (λ other. false≢true (sym c.if-not-has_turned.true ∙ c.has_turned.ensures.1 other)) in
    pieces_level (held_in c.args.chunks.now) g c.args.is_complete (map shown_at c.args.runs.now.items) c.requires (subst (λ (b : Bool). IsTrue b ↔ IsCompleteIn (held_in c.args.chunks.now) g) same was)

pub turn_of-requires-clause-turned : goal.turn_of-requires-clause-turned
turn_of-requires-clause-turned c =
    let g = group_of c.args.id.now in
    let at = IsCompleteIn-at c.args.chunks.now c.is_complete-was_complete.ensures.chunks g in
    let was : IsTrue c.is_complete-was_complete.result ↔ IsCompleteIn (held_in c.args.chunks.now) g = (λ e. at.1 (c.is_complete-was_complete.ensures.complete.0 e), λ h. c.is_complete-was_complete.ensures.complete.1 (at.0 h)) in
    let other = c.has_turned.ensures.0 c.if-not-has_turned.false in
    not_complete c.is_complete-was_complete.result c.args.is_complete (IsCompleteIn (held_in c.args.chunks.now) g) was other

pub returns-in_err-edit-clause-level : goal.returns-in_err-edit-clause-level
returns-in_err-edit-clause-level c level =
    let g = group_of c.args.id.now in
    let at = IsCompleteIn-at c.args.chunks.now c.is_complete-was_complete.ensures.chunks g in
    let was : IsTrue c.is_complete-was_complete.result ↔ IsCompleteIn (held_in c.args.chunks.now) g = (λ e. at.1 (c.is_complete-was_complete.ensures.complete.0 e), λ h. c.is_complete-was_complete.ensures.complete.1 (at.0 h)) in
    let other = c.has_turned.ensures.0 c.if-not-has_turned.false in
    absurd (other (reported_alike c.is_complete-was_complete.result c.args.is_complete (IsCompleteIn (held_in c.args.chunks.now) g) was level))

pub returns-in_err-edit-clause-met : goal.returns-in_err-edit-clause-met
returns-in_err-edit-clause-met c not =
    let g = group_of c.args.id.now in
    let at = IsCompleteIn-at c.args.chunks.now c.is_complete-was_complete.ensures.chunks g in
    let was : IsTrue c.is_complete-was_complete.result ↔ IsCompleteIn (held_in c.args.chunks.now) g = (λ e. at.1 (c.is_complete-was_complete.ensures.complete.0 e), λ h. c.is_complete-was_complete.ensures.complete.1 (at.0 h)) in
    let other = c.has_turned.ensures.0 c.if-not-has_turned.false in
    let own = then_complete c.is_complete-was_complete.result c.args.is_complete (IsCompleteIn (held_in c.args.chunks.now) g) was not other in
    subst (λ (rs : List Run). c.turn_of.new.meter ≤ c.args.meter.now + length (cut (g.interval ∷ []) (map shown_at rs))) c.deref.ensures.value (c.turn_of.ensures.met own)

pub returns-clause-pieces : goal.returns-clause-pieces
returns-clause-pieces c =
    let g = group_of c.args.id.now in
    let pieces = subst (λ (rs : List Run). ArePiecesThen (held_in c.args.chunks.now) g c.args.is_complete (map shown_at (settled rs c.in_ok-edit.edit))) c.deref.ensures.value c.in_ok-edit.ensures.pieces in
    if_ok_weaker c.make_room.result _ _ c.make_room.ensures.edit (λ ready same.
    subst (λ (rs : List Run). ArePiecesThen (held_in c.args.chunks.now) g c.args.is_complete (map shown_at rs)) (sym same) pieces)

pub returns-clause-level : goal.returns-clause-level
returns-clause-level c level =
    let g = group_of c.args.id.now in
    let at = IsCompleteIn-at c.args.chunks.now c.is_complete-was_complete.ensures.chunks g in
    let was : IsTrue c.is_complete-was_complete.result ↔ IsCompleteIn (held_in c.args.chunks.now) g = (λ e. at.1 (c.is_complete-was_complete.ensures.complete.0 e), λ h. c.is_complete-was_complete.ensures.complete.1 (at.0 h)) in
    let other = c.has_turned.ensures.0 c.if-not-has_turned.false in
    absurd (other (reported_alike c.is_complete-was_complete.result c.args.is_complete (IsCompleteIn (held_in c.args.chunks.now) g) was level))

pub returns-clause-met : goal.returns-clause-met
returns-clause-met c not =
    let g = group_of c.args.id.now in
    let at = IsCompleteIn-at c.args.chunks.now c.is_complete-was_complete.ensures.chunks g in
    let was : IsTrue c.is_complete-was_complete.result ↔ IsCompleteIn (held_in c.args.chunks.now) g = (λ e. at.1 (c.is_complete-was_complete.ensures.complete.0 e), λ h. c.is_complete-was_complete.ensures.complete.1 (at.0 h)) in
    let other = c.has_turned.ensures.0 c.if-not-has_turned.false in
    let own = then_complete c.is_complete-was_complete.result c.args.is_complete (IsCompleteIn (held_in c.args.chunks.now) g) was not other in
    subst (λ (rs : List Run). c.turn_of.new.meter ≤ c.args.meter.now + length (cut (g.interval ∷ []) (map shown_at rs))) c.deref.ensures.value (c.turn_of.ensures.met own)
