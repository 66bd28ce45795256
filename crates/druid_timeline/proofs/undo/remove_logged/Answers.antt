use Rattle.std.proofs.Common.{◌≡◌, ◌↔◌, ◌≤◌, ◌+◌, ◌*◌, ◌∙◌, List, [], ◌∷◌, length, map, refl, sym, ap, subst}
use Rattle.std.specs.Bool.{IsTrue}
use Rattle.std.specs.Vec.{vec_capacity}
use Rattle.druid_segment_id.specs.Group.{Group, group_of}
use Rattle.druid_timeline_members.specs.Members.{Member, IsComplete, RemovesPlace}
use Rattle.druid_timeline_chunks.specs.Chunks.{Chunk, AreChunks, members_at}
use Rattle.druid_base.proofs.ClauseLemmas.{always_err}
use Rattle.druid_timeline.specs.Chunks.{held_in}
use Rattle.druid_timeline.specs.Edited.{ArePiecesThen, HasOthers}
use Rattle.druid_timeline.specs.Exchanges.{settled}
use Rattle.druid_timeline.specs.Holding.{IsCompleteIn, SameHeld}
use Rattle.druid_timeline.specs.Pieces.{ArePieces, cut, shown_at}
use Rattle.druid_timeline.proofs.ChunkLemmas.{IsHeld-chunk, IsCompleteIn-at, SameHeld-chunk, RemovesHeld-chunk, RemovesOneHeld-chunk}
use Rattle.druid_timeline.proofs.CountLemmas.{met_of}
use Rattle.druid_timeline.proofs.SweepLemmas.{Run}
use Rattle.druid_timeline.proofs.TurnLemmas.{alike_chunks, level_claim, pieces_same}
use Rattle.druid_timeline.proofs.UndoLemmas.{TakesBack-more}
use Rattle.druid_timeline.proofs.undo.remove_logged.Goals as goal

pub remove-requires : goal.remove-requires
remove-requires c = (IsHeld-chunk c.args.chunks.now.now (subst AreChunks c.chunks.ensures c.is_complete_without-is_complete.ensures.chunks) c.args.node c.args.id.now).0 c.requires.there

pub returns-in_err-remove-clause-pieces : goal.returns-in_err-remove-clause-pieces
returns-in_err-remove-clause-pieces c =
    let same = SameHeld-chunk c.args.chunks.now.now c.remove.new.self.now (group_of c.args.id.now) c.remove.ensures.was c.remove.ensures.chunks c.remove.ensures.others c.in_err-remove.ensures.err in
    pieces_same (held_in c.args.chunks.now.now) (held_in c.remove.new.self.now) (map shown_at c.prepare_edit.new.runs.items) same
    (subst (λ (items : List Run). ArePieces (held_in c.args.chunks.now.now) (map shown_at items)) (sym c.prepare_edit.ensures.same) c.requires.pieces)

pub returns-in_err-remove-clause-err : goal.returns-in_err-remove-clause-err
returns-in_err-remove-clause-err c =
    always_err c.from_residual-in_err-remove.result (SameHeld (held_in c.args.chunks.now.now) (held_in c.remove.new.self.now))
    (SameHeld-chunk c.args.chunks.now.now c.remove.new.self.now (group_of c.args.id.now) c.remove.ensures.was c.remove.ensures.chunks c.remove.ensures.others c.in_err-remove.ensures.err)

pub returns-clause-pieces : goal.returns-clause-pieces
returns-clause-pieces c =
    let at = IsCompleteIn-at c.remove.new.self.now c.remove.ensures.chunks (group_of c.args.id.now) in
    let claim = (subst (λ (cs : List Chunk). (new : List Member) → RemovesPlace (members_at cs (group_of c.args.id.now)) new c.args.id.now.partition c.args.node → IsTrue c.is_complete_without-is_complete.result ↔ IsComplete new) c.chunks.ensures c.is_complete_without-is_complete.ensures.complete) (members_at c.remove.new.self.now (group_of c.args.id.now)) c.in_ok-remove.ensures.removed in
    let is : IsTrue c.is_complete_without-is_complete.result ↔ IsCompleteIn (held_in c.remove.new.self.now) (group_of c.args.id.now) = (λ e. at.1 (claim.0 e), λ h. claim.1 (at.0 h)) in
    let alike = alike_chunks c.args.chunks.now.now c.remove.new.self.now (group_of c.args.id.now) c.remove.ensures.was c.remove.ensures.chunks c.remove.ensures.others in
    let items = c.settle_logged.ensures.runs ∙ ap (λ (rs : List Run). settled rs c.in_ok-edit.edit) c.prepare_edit.ensures.same in
    subst (λ (rs : List Run). ArePieces (held_in c.remove.new.self.now) (map shown_at rs)) (sym items) ((subst (λ (cs : List Chunk). ArePiecesThen (held_in cs) (group_of c.args.id.now) c.is_complete_without-is_complete.result (map shown_at (settled c.args.runs.now.items c.in_ok-edit.edit))) c.chunks-2.ensures c.in_ok-edit.ensures.pieces) (held_in c.remove.new.self.now) alike is)

pub returns-clause-removed : goal.returns-clause-removed
returns-clause-removed c = RemovesHeld-chunk c.args.chunks.now.now c.remove.new.self.now c.args.node c.args.id.now c.remove.ensures.was c.remove.ensures.chunks c.remove.ensures.others c.in_ok-remove.ensures.removed

pub returns-clause-one : goal.returns-clause-one
returns-clause-one c = RemovesOneHeld-chunk c.args.chunks.now.now c.remove.new.self.now c.args.node c.args.id.now c.remove.ensures.was c.remove.ensures.chunks c.remove.ensures.others c.in_ok-remove.ensures.one

pub returns-in_err-edit-clause-bound : goal.returns-in_err-edit-clause-bound
returns-in_err-edit-clause-bound c = (subst (λ (cs : List Chunk). (others : List Group) → HasOthers (held_in cs) (group_of c.args.id.now) others → c.prepare_edit.new.meter ≤ c.args.meter.now + 3 * length others + 1) c.chunks-2.ensures c.prepare_edit.ensures.bound)

pub returns-in_err-edit-clause-met : goal.returns-in_err-edit-clause-met
returns-in_err-edit-clause-met c not pieces are =
    met_of (held_in c.args.chunks.now.now) (group_of c.args.id.now) (map shown_at c.args.runs.now.items) pieces c.args.meter.now c.prepare_edit.new.meter c.requires.pieces are ((subst (λ (cs : List Chunk). (IsCompleteIn (held_in cs) (group_of c.args.id.now) → ⊥) → c.prepare_edit.new.meter ≤ c.args.meter.now + length (cut ((group_of c.args.id.now).interval ∷ []) (map shown_at c.args.runs.now.items))) c.chunks-2.ensures c.prepare_edit.ensures.met) not)

pub returns-in_err-reserve_for-clause-bound : goal.returns-in_err-reserve_for-clause-bound
returns-in_err-reserve_for-clause-bound c = (subst (λ (cs : List Chunk). (others : List Group) → HasOthers (held_in cs) (group_of c.args.id.now) others → c.prepare_edit.new.meter ≤ c.args.meter.now + 3 * length others + 1) c.chunks-2.ensures c.prepare_edit.ensures.bound)

pub returns-in_err-reserve_for-clause-met : goal.returns-in_err-reserve_for-clause-met
returns-in_err-reserve_for-clause-met c not pieces are =
    met_of (held_in c.args.chunks.now.now) (group_of c.args.id.now) (map shown_at c.args.runs.now.items) pieces c.args.meter.now c.prepare_edit.new.meter c.requires.pieces are ((subst (λ (cs : List Chunk). (IsCompleteIn (held_in cs) (group_of c.args.id.now) → ⊥) → c.prepare_edit.new.meter ≤ c.args.meter.now + length (cut ((group_of c.args.id.now).interval ∷ []) (map shown_at c.args.runs.now.items))) c.chunks-2.ensures c.prepare_edit.ensures.met) not)

pub returns-in_err-remove-clause-bound : goal.returns-in_err-remove-clause-bound
returns-in_err-remove-clause-bound c = (subst (λ (cs : List Chunk). (others : List Group) → HasOthers (held_in cs) (group_of c.args.id.now) others → c.prepare_edit.new.meter ≤ c.args.meter.now + 3 * length others + 1) c.chunks-2.ensures c.prepare_edit.ensures.bound)

pub returns-in_err-remove-clause-met : goal.returns-in_err-remove-clause-met
returns-in_err-remove-clause-met c not pieces are =
    met_of (held_in c.args.chunks.now.now) (group_of c.args.id.now) (map shown_at c.args.runs.now.items) pieces c.args.meter.now c.prepare_edit.new.meter c.requires.pieces are ((subst (λ (cs : List Chunk). (IsCompleteIn (held_in cs) (group_of c.args.id.now) → ⊥) → c.prepare_edit.new.meter ≤ c.args.meter.now + length (cut ((group_of c.args.id.now).interval ∷ []) (map shown_at c.args.runs.now.items))) c.chunks-2.ensures c.prepare_edit.ensures.met) not)

pub returns-clause-bound : goal.returns-clause-bound
returns-clause-bound c = (subst (λ (cs : List Chunk). (others : List Group) → HasOthers (held_in cs) (group_of c.args.id.now) others → c.prepare_edit.new.meter ≤ c.args.meter.now + 3 * length others + 1) c.chunks-2.ensures c.prepare_edit.ensures.bound)

pub returns-clause-met : goal.returns-clause-met
returns-clause-met c not pieces are =
    met_of (held_in c.args.chunks.now.now) (group_of c.args.id.now) (map shown_at c.args.runs.now.items) pieces c.args.meter.now c.prepare_edit.new.meter c.requires.pieces are ((subst (λ (cs : List Chunk). (IsCompleteIn (held_in cs) (group_of c.args.id.now) → ⊥) → c.prepare_edit.new.meter ≤ c.args.meter.now + length (cut ((group_of c.args.id.now).interval ∷ []) (map shown_at c.args.runs.now.items))) c.chunks-2.ensures c.prepare_edit.ensures.met) not)

pub returns-clause-level : goal.returns-clause-level
returns-clause-level c level =
    let at = IsCompleteIn-at c.remove.new.self.now c.remove.ensures.chunks (group_of c.args.id.now) in
    let claim = (subst (λ (cs : List Chunk). (new : List Member) → RemovesPlace (members_at cs (group_of c.args.id.now)) new c.args.id.now.partition c.args.node → IsTrue c.is_complete_without-is_complete.result ↔ IsComplete new) c.chunks.ensures c.is_complete_without-is_complete.ensures.complete) (members_at c.remove.new.self.now (group_of c.args.id.now)) c.in_ok-remove.ensures.removed in
    let is : IsTrue c.is_complete_without-is_complete.result ↔ IsCompleteIn (held_in c.remove.new.self.now) (group_of c.args.id.now) = (λ e. at.1 (claim.0 e), λ h. claim.1 (at.0 h)) in
    (subst (λ (cs : List Chunk). (IsTrue c.is_complete_without-is_complete.result ↔ IsCompleteIn (held_in cs) (group_of c.args.id.now)) → c.prepare_edit.new.meter ≡ c.args.meter.now) c.chunks-2.ensures c.prepare_edit.ensures.level) (level_claim (IsCompleteIn (held_in c.args.chunks.now.now) (group_of c.args.id.now)) (IsCompleteIn (held_in c.remove.new.self.now) (group_of c.args.id.now)) c.is_complete_without-is_complete.result is level)

pub returns-in_err-edit-clause-back : goal.returns-in_err-edit-clause-back
returns-in_err-edit-clause-back c =
    TakesBack-more c.args.chunks.now.before c.args.chunks.now.before c.args.runs.now.items c.prepare_edit.new.runs.items (vec_capacity c.args.runs.now) (vec_capacity c.prepare_edit.new.runs) c.args.log.now.items c.args.log.now.items (λ g. refl) c.prepare_edit.ensures.same c.prepare_edit.ensures.capacity refl c.requires.back

pub returns-in_err-reserve_for-clause-back : goal.returns-in_err-reserve_for-clause-back
returns-in_err-reserve_for-clause-back c =
    TakesBack-more c.args.chunks.now.before c.args.chunks.now.before c.args.runs.now.items c.prepare_edit.new.runs.items (vec_capacity c.args.runs.now) (vec_capacity c.prepare_edit.new.runs) c.args.log.now.items c.reserve_for.new.log.items (λ g. refl) c.prepare_edit.ensures.same c.prepare_edit.ensures.capacity c.reserve_for.ensures.same c.requires.back

pub returns-in_err-remove-clause-back : goal.returns-in_err-remove-clause-back
returns-in_err-remove-clause-back c =
    TakesBack-more c.args.chunks.now.before c.remove.new.self.before c.args.runs.now.items c.prepare_edit.new.runs.items (vec_capacity c.args.runs.now) (vec_capacity c.prepare_edit.new.runs) c.args.log.now.items c.reserve_for.new.log.items c.remove.ensures.before c.prepare_edit.ensures.same c.prepare_edit.ensures.capacity c.reserve_for.ensures.same c.requires.back

pub returns-clause-back : goal.returns-clause-back
returns-clause-back c =
    c.settle_logged.ensures.back c.remove.new.self.before
    (TakesBack-more c.args.chunks.now.before c.remove.new.self.before c.args.runs.now.items c.prepare_edit.new.runs.items (vec_capacity c.args.runs.now) (vec_capacity c.prepare_edit.new.runs) c.args.log.now.items c.reserve_for.new.log.items c.remove.ensures.before c.prepare_edit.ensures.same c.prepare_edit.ensures.capacity c.reserve_for.ensures.same c.requires.back)
