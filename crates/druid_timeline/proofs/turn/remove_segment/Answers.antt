use Rattle.std.proofs.Common.{◌↔◌, ◌∙◌, List, map, sym, ap, subst}
use Rattle.std.specs.Bool.{IsTrue}
use Rattle.druid_segment_id.specs.Group.{group_of}
use Rattle.druid_timeline_chunks.specs.Chunks.{members_at}
use Rattle.druid_base.proofs.ClauseLemmas.{always_err}
use Rattle.druid_timeline.specs.Chunks.{held_in}
use Rattle.druid_timeline.specs.Exchanges.{settled}
use Rattle.druid_timeline.specs.Holding.{IsCompleteIn, SameHeld}
use Rattle.druid_timeline.specs.Pieces.{ArePieces, shown_at}
use Rattle.druid_timeline.proofs.ChunkLemmas.{IsHeld-chunk, IsCompleteIn-at, SameHeld-chunk, RemovesHeld-chunk, RemovesOneHeld-chunk}
use Rattle.druid_timeline.proofs.CountLemmas.{met_of}
use Rattle.druid_timeline.proofs.SweepLemmas.{Run}
use Rattle.druid_timeline.proofs.TurnLemmas.{alike_chunks, level_claim, pieces_same}
use Rattle.druid_timeline.proofs.turn.remove_segment.Goals as goal

pub remove-requires : goal.remove-requires
remove-requires c = (IsHeld-chunk c.args.chunks.now c.is_complete_without-is_complete.ensures.chunks c.args.node c.args.id.now).0 c.requires.there

pub returns-in_err-remove-clause-pieces : goal.returns-in_err-remove-clause-pieces
returns-in_err-remove-clause-pieces c =
    let same = SameHeld-chunk c.args.chunks.now c.remove.new.self (group_of c.args.id.now) c.remove.ensures.was c.remove.ensures.chunks c.remove.ensures.others c.in_err-remove.ensures.err in
    pieces_same (held_in c.args.chunks.now) (held_in c.remove.new.self) (map shown_at c.prepare_edit.new.runs.items) same
    (subst (λ (items : List Run). ArePieces (held_in c.args.chunks.now) (map shown_at items)) (sym c.prepare_edit.ensures.same) c.requires.pieces)

pub returns-in_err-remove-clause-err : goal.returns-in_err-remove-clause-err
returns-in_err-remove-clause-err c =
    always_err c.from_residual-in_err-remove.result (SameHeld (held_in c.args.chunks.now) (held_in c.remove.new.self))
    (SameHeld-chunk c.args.chunks.now c.remove.new.self (group_of c.args.id.now) c.remove.ensures.was c.remove.ensures.chunks c.remove.ensures.others c.in_err-remove.ensures.err)

pub returns-clause-pieces : goal.returns-clause-pieces
returns-clause-pieces c =
    let at = IsCompleteIn-at c.remove.new.self c.remove.ensures.chunks (group_of c.args.id.now) in
    let claim = c.is_complete_without-is_complete.ensures.complete (members_at c.remove.new.self (group_of c.args.id.now)) c.in_ok-remove.ensures.removed in
    let is : IsTrue c.is_complete_without-is_complete.result ↔ IsCompleteIn (held_in c.remove.new.self) (group_of c.args.id.now) = (λ e. at.1 (claim.0 e), λ h. claim.1 (at.0 h)) in
    let alike = alike_chunks c.args.chunks.now c.remove.new.self (group_of c.args.id.now) c.remove.ensures.was c.remove.ensures.chunks c.remove.ensures.others in
    let items = c.settle.ensures ∙ ap (λ (rs : List Run). settled rs c.in_ok-edit.edit) c.prepare_edit.ensures.same in
    subst (λ (rs : List Run). ArePieces (held_in c.remove.new.self) (map shown_at rs)) (sym items) (c.in_ok-edit.ensures.pieces (held_in c.remove.new.self) alike is)

pub returns-clause-removed : goal.returns-clause-removed
returns-clause-removed c = RemovesHeld-chunk c.args.chunks.now c.remove.new.self c.args.node c.args.id.now c.remove.ensures.was c.remove.ensures.chunks c.remove.ensures.others c.in_ok-remove.ensures.removed

pub returns-clause-one : goal.returns-clause-one
returns-clause-one c = RemovesOneHeld-chunk c.args.chunks.now c.remove.new.self c.args.node c.args.id.now c.remove.ensures.was c.remove.ensures.chunks c.remove.ensures.others c.in_ok-remove.ensures.one

pub returns-in_err-edit-clause-met : goal.returns-in_err-edit-clause-met
returns-in_err-edit-clause-met c not pieces are =
    met_of (held_in c.args.chunks.now) (group_of c.args.id.now) (map shown_at c.args.runs.now.items) pieces c.args.meter.now c.prepare_edit.new.meter c.requires.pieces are (c.prepare_edit.ensures.met not)

pub returns-in_err-remove-clause-met : goal.returns-in_err-remove-clause-met
returns-in_err-remove-clause-met c not pieces are =
    met_of (held_in c.args.chunks.now) (group_of c.args.id.now) (map shown_at c.args.runs.now.items) pieces c.args.meter.now c.prepare_edit.new.meter c.requires.pieces are (c.prepare_edit.ensures.met not)

pub returns-clause-met : goal.returns-clause-met
returns-clause-met c not pieces are =
    met_of (held_in c.args.chunks.now) (group_of c.args.id.now) (map shown_at c.args.runs.now.items) pieces c.args.meter.now c.prepare_edit.new.meter c.requires.pieces are (c.prepare_edit.ensures.met not)

pub returns-clause-level : goal.returns-clause-level
returns-clause-level c level =
    let at = IsCompleteIn-at c.remove.new.self c.remove.ensures.chunks (group_of c.args.id.now) in
    let claim = c.is_complete_without-is_complete.ensures.complete (members_at c.remove.new.self (group_of c.args.id.now)) c.in_ok-remove.ensures.removed in
    let is : IsTrue c.is_complete_without-is_complete.result ↔ IsCompleteIn (held_in c.remove.new.self) (group_of c.args.id.now) = (λ e. at.1 (claim.0 e), λ h. claim.1 (at.0 h)) in
    c.prepare_edit.ensures.level (level_claim (IsCompleteIn (held_in c.args.chunks.now) (group_of c.args.id.now)) (IsCompleteIn (held_in c.remove.new.self) (group_of c.args.id.now)) c.is_complete_without-is_complete.result is level)
