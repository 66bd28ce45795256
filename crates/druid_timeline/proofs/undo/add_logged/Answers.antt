use Rattle.std.proofs.Common.{◌≡◌, ◌↔◌, ℕ, ◌≤◌, ◌+◌, ◌*◌, ◌∙◌, List, [], ◌∷◌, length, map, refl, sym, ap, subst}
use Rattle.std.specs.Bool.{IsTrue}
use Rattle.std.specs.Vec.{vec_capacity}
use Rattle.druid_segment_id.specs.Group.{Group, group_of}
use Rattle.druid_timeline_members.specs.Members.{Member, member_of, IsComplete, Adds}
use Rattle.druid_timeline_chunks.specs.Chunks.{Chunk, AreChunks, members_at}
use Rattle.druid_base.proofs.ClauseLemmas.{always_err}
use Rattle.druid_timeline.specs.Chunks.{held_in}
use Rattle.druid_timeline.specs.Edited.{ArePiecesThen, HasOthers}
use Rattle.druid_timeline.specs.Exchanges.{settled}
use Rattle.druid_timeline.specs.Holding.{IsCompleteIn, SameHeld}
use Rattle.druid_timeline.specs.Pieces.{ArePieces, cut, shown_at}
use Rattle.druid_timeline.proofs.ChunkLemmas.{IsHeld-chunk, IsCompleteIn-at, SameHeld-chunk, AddsHeld-chunk}
use Rattle.druid_timeline.proofs.CountLemmas.{met_of}
use Rattle.druid_timeline.proofs.SweepLemmas.{Run}
use Rattle.druid_timeline.proofs.TurnLemmas.{alike_chunks, level_claim, pieces_same}
use Rattle.druid_timeline.proofs.UndoLemmas.{TakesBack-more}
use Rattle.druid_timeline.proofs.undo.add_logged.Goals as goal

pub add-requires : goal.add-requires
add-requires c = λ place. c.requires.new ((IsHeld-chunk c.args.chunks.now.now (subst AreChunks c.chunks.ensures c.is_complete_with-is_complete.ensures.chunks) c.args.node c.args.descriptor.now.id).1 place)

pub returns-in_err-add-clause-pieces : goal.returns-in_err-add-clause-pieces
returns-in_err-add-clause-pieces c =
    let same = SameHeld-chunk c.args.chunks.now.now c.add.new.self.now (group_of c.args.descriptor.now.id) c.add.ensures.was c.add.ensures.chunks c.add.ensures.others c.in_err-add.ensures.err in
    pieces_same (held_in c.args.chunks.now.now) (held_in c.add.new.self.now) (map shown_at c.prepare_edit.new.runs.items) same
    (subst (λ (items : List Run). ArePieces (held_in c.args.chunks.now.now) (map shown_at items)) (sym c.prepare_edit.ensures.same) c.requires.pieces)

pub returns-in_err-add-clause-err : goal.returns-in_err-add-clause-err
returns-in_err-add-clause-err c =
    always_err c.from_residual-in_err-add.result (SameHeld (held_in c.args.chunks.now.now) (held_in c.add.new.self.now))
    (SameHeld-chunk c.args.chunks.now.now c.add.new.self.now (group_of c.args.descriptor.now.id) c.add.ensures.was c.add.ensures.chunks c.add.ensures.others c.in_err-add.ensures.err)

pub returns-clause-pieces : goal.returns-clause-pieces
returns-clause-pieces c =
    let at = IsCompleteIn-at c.add.new.self.now c.add.ensures.chunks (group_of c.args.descriptor.now.id) in
    let claim = (subst (λ (cs : List Chunk). (new : List Member) (node : ℕ) → Adds (members_at cs (group_of c.args.descriptor.now.id)) new (member_of node c.args.descriptor.now) → IsTrue c.is_complete_with-is_complete.result ↔ IsComplete new) c.chunks.ensures c.is_complete_with-is_complete.ensures.complete) (members_at c.add.new.self.now (group_of c.args.descriptor.now.id)) c.args.node c.in_ok-add.ensures.added in
    let is : IsTrue c.is_complete_with-is_complete.result ↔ IsCompleteIn (held_in c.add.new.self.now) (group_of c.args.descriptor.now.id) = (λ e. at.1 (claim.0 e), λ h. claim.1 (at.0 h)) in
    let alike = alike_chunks c.args.chunks.now.now c.add.new.self.now (group_of c.args.descriptor.now.id) c.add.ensures.was c.add.ensures.chunks c.add.ensures.others in
    let items = c.settle_logged.ensures.runs ∙ ap (λ (rs : List Run). settled rs c.in_ok-edit.edit) c.prepare_edit.ensures.same in
    subst (λ (rs : List Run). ArePieces (held_in c.add.new.self.now) (map shown_at rs)) (sym items) ((subst (λ (g : Group). ArePiecesThen (held_in c.args.chunks.now.now) g c.is_complete_with-is_complete.result (map shown_at (settled c.args.runs.now.items c.in_ok-edit.edit))) (ap group_of c.id.ensures.value) (subst (λ (cs : List Chunk). ArePiecesThen (held_in cs) (group_of c.id.result.now) c.is_complete_with-is_complete.result (map shown_at (settled c.args.runs.now.items c.in_ok-edit.edit))) c.chunks-2.ensures c.in_ok-edit.ensures.pieces)) (held_in c.add.new.self.now) alike is)

pub returns-clause-added : goal.returns-clause-added
returns-clause-added c =
    AddsHeld-chunk c.args.chunks.now.now c.add.new.self.now (group_of c.args.descriptor.now.id) (member_of c.args.node c.args.descriptor.now) c.add.ensures.was c.add.ensures.chunks c.add.ensures.others c.in_ok-add.ensures.added

pub returns-in_err-edit-clause-bound : goal.returns-in_err-edit-clause-bound
returns-in_err-edit-clause-bound c = (subst (λ (g : Group). (others : List Group) → HasOthers (held_in c.args.chunks.now.now) g others → c.prepare_edit.new.meter ≤ c.args.meter.now + 3 * length others + 1) (ap group_of c.id.ensures.value) (subst (λ (cs : List Chunk). (others : List Group) → HasOthers (held_in cs) (group_of c.id.result.now) others → c.prepare_edit.new.meter ≤ c.args.meter.now + 3 * length others + 1) c.chunks-2.ensures c.prepare_edit.ensures.bound))

pub returns-in_err-edit-clause-met : goal.returns-in_err-edit-clause-met
returns-in_err-edit-clause-met c not pieces are =
    met_of (held_in c.args.chunks.now.now) (group_of c.args.descriptor.now.id) (map shown_at c.args.runs.now.items) pieces c.args.meter.now c.prepare_edit.new.meter c.requires.pieces are ((subst (λ (g : Group). (IsCompleteIn (held_in c.args.chunks.now.now) g → ⊥) → c.prepare_edit.new.meter ≤ c.args.meter.now + length (cut (g.interval ∷ []) (map shown_at c.args.runs.now.items))) (ap group_of c.id.ensures.value) (subst (λ (cs : List Chunk). (IsCompleteIn (held_in cs) (group_of c.id.result.now) → ⊥) → c.prepare_edit.new.meter ≤ c.args.meter.now + length (cut ((group_of c.id.result.now).interval ∷ []) (map shown_at c.args.runs.now.items))) c.chunks-2.ensures c.prepare_edit.ensures.met)) not)

pub returns-in_err-reserve_for-clause-bound : goal.returns-in_err-reserve_for-clause-bound
returns-in_err-reserve_for-clause-bound c = (subst (λ (g : Group). (others : List Group) → HasOthers (held_in c.args.chunks.now.now) g others → c.prepare_edit.new.meter ≤ c.args.meter.now + 3 * length others + 1) (ap group_of c.id.ensures.value) (subst (λ (cs : List Chunk). (others : List Group) → HasOthers (held_in cs) (group_of c.id.result.now) others → c.prepare_edit.new.meter ≤ c.args.meter.now + 3 * length others + 1) c.chunks-2.ensures c.prepare_edit.ensures.bound))

pub returns-in_err-reserve_for-clause-met : goal.returns-in_err-reserve_for-clause-met
returns-in_err-reserve_for-clause-met c not pieces are =
    met_of (held_in c.args.chunks.now.now) (group_of c.args.descriptor.now.id) (map shown_at c.args.runs.now.items) pieces c.args.meter.now c.prepare_edit.new.meter c.requires.pieces are ((subst (λ (g : Group). (IsCompleteIn (held_in c.args.chunks.now.now) g → ⊥) → c.prepare_edit.new.meter ≤ c.args.meter.now + length (cut (g.interval ∷ []) (map shown_at c.args.runs.now.items))) (ap group_of c.id.ensures.value) (subst (λ (cs : List Chunk). (IsCompleteIn (held_in cs) (group_of c.id.result.now) → ⊥) → c.prepare_edit.new.meter ≤ c.args.meter.now + length (cut ((group_of c.id.result.now).interval ∷ []) (map shown_at c.args.runs.now.items))) c.chunks-2.ensures c.prepare_edit.ensures.met)) not)

pub returns-in_err-add-clause-bound : goal.returns-in_err-add-clause-bound
returns-in_err-add-clause-bound c = (subst (λ (g : Group). (others : List Group) → HasOthers (held_in c.args.chunks.now.now) g others → c.prepare_edit.new.meter ≤ c.args.meter.now + 3 * length others + 1) (ap group_of c.id.ensures.value) (subst (λ (cs : List Chunk). (others : List Group) → HasOthers (held_in cs) (group_of c.id.result.now) others → c.prepare_edit.new.meter ≤ c.args.meter.now + 3 * length others + 1) c.chunks-2.ensures c.prepare_edit.ensures.bound))

pub returns-in_err-add-clause-met : goal.returns-in_err-add-clause-met
returns-in_err-add-clause-met c not pieces are =
    met_of (held_in c.args.chunks.now.now) (group_of c.args.descriptor.now.id) (map shown_at c.args.runs.now.items) pieces c.args.meter.now c.prepare_edit.new.meter c.requires.pieces are ((subst (λ (g : Group). (IsCompleteIn (held_in c.args.chunks.now.now) g → ⊥) → c.prepare_edit.new.meter ≤ c.args.meter.now + length (cut (g.interval ∷ []) (map shown_at c.args.runs.now.items))) (ap group_of c.id.ensures.value) (subst (λ (cs : List Chunk). (IsCompleteIn (held_in cs) (group_of c.id.result.now) → ⊥) → c.prepare_edit.new.meter ≤ c.args.meter.now + length (cut ((group_of c.id.result.now).interval ∷ []) (map shown_at c.args.runs.now.items))) c.chunks-2.ensures c.prepare_edit.ensures.met)) not)

pub returns-clause-bound : goal.returns-clause-bound
returns-clause-bound c = (subst (λ (g : Group). (others : List Group) → HasOthers (held_in c.args.chunks.now.now) g others → c.prepare_edit.new.meter ≤ c.args.meter.now + 3 * length others + 1) (ap group_of c.id.ensures.value) (subst (λ (cs : List Chunk). (others : List Group) → HasOthers (held_in cs) (group_of c.id.result.now) others → c.prepare_edit.new.meter ≤ c.args.meter.now + 3 * length others + 1) c.chunks-2.ensures c.prepare_edit.ensures.bound))

pub returns-clause-met : goal.returns-clause-met
returns-clause-met c not pieces are =
    met_of (held_in c.args.chunks.now.now) (group_of c.args.descriptor.now.id) (map shown_at c.args.runs.now.items) pieces c.args.meter.now c.prepare_edit.new.meter c.requires.pieces are ((subst (λ (g : Group). (IsCompleteIn (held_in c.args.chunks.now.now) g → ⊥) → c.prepare_edit.new.meter ≤ c.args.meter.now + length (cut (g.interval ∷ []) (map shown_at c.args.runs.now.items))) (ap group_of c.id.ensures.value) (subst (λ (cs : List Chunk). (IsCompleteIn (held_in cs) (group_of c.id.result.now) → ⊥) → c.prepare_edit.new.meter ≤ c.args.meter.now + length (cut ((group_of c.id.result.now).interval ∷ []) (map shown_at c.args.runs.now.items))) c.chunks-2.ensures c.prepare_edit.ensures.met)) not)

pub returns-clause-level : goal.returns-clause-level
returns-clause-level c level =
    let at = IsCompleteIn-at c.add.new.self.now c.add.ensures.chunks (group_of c.args.descriptor.now.id) in
    let claim = (subst (λ (cs : List Chunk). (new : List Member) (node : ℕ) → Adds (members_at cs (group_of c.args.descriptor.now.id)) new (member_of node c.args.descriptor.now) → IsTrue c.is_complete_with-is_complete.result ↔ IsComplete new) c.chunks.ensures c.is_complete_with-is_complete.ensures.complete) (members_at c.add.new.self.now (group_of c.args.descriptor.now.id)) c.args.node c.in_ok-add.ensures.added in
    let is : IsTrue c.is_complete_with-is_complete.result ↔ IsCompleteIn (held_in c.add.new.self.now) (group_of c.args.descriptor.now.id) = (λ e. at.1 (claim.0 e), λ h. claim.1 (at.0 h)) in
    (subst (λ (g : Group). (IsTrue c.is_complete_with-is_complete.result ↔ IsCompleteIn (held_in c.args.chunks.now.now) g) → c.prepare_edit.new.meter ≡ c.args.meter.now) (ap group_of c.id.ensures.value) (subst (λ (cs : List Chunk). (IsTrue c.is_complete_with-is_complete.result ↔ IsCompleteIn (held_in cs) (group_of c.id.result.now)) → c.prepare_edit.new.meter ≡ c.args.meter.now) c.chunks-2.ensures c.prepare_edit.ensures.level)) (level_claim (IsCompleteIn (held_in c.args.chunks.now.now) (group_of c.args.descriptor.now.id)) (IsCompleteIn (held_in c.add.new.self.now) (group_of c.args.descriptor.now.id)) c.is_complete_with-is_complete.result is level)

pub returns-in_err-edit-clause-back : goal.returns-in_err-edit-clause-back
returns-in_err-edit-clause-back c =
    TakesBack-more c.args.chunks.now.before c.args.chunks.now.before c.args.runs.now.items c.prepare_edit.new.runs.items (vec_capacity c.args.runs.now) (vec_capacity c.prepare_edit.new.runs) c.args.log.now.items c.args.log.now.items (λ g. refl) c.prepare_edit.ensures.same c.prepare_edit.ensures.capacity refl c.requires.back

pub returns-in_err-reserve_for-clause-back : goal.returns-in_err-reserve_for-clause-back
returns-in_err-reserve_for-clause-back c =
    TakesBack-more c.args.chunks.now.before c.args.chunks.now.before c.args.runs.now.items c.prepare_edit.new.runs.items (vec_capacity c.args.runs.now) (vec_capacity c.prepare_edit.new.runs) c.args.log.now.items c.reserve_for.new.log.items (λ g. refl) c.prepare_edit.ensures.same c.prepare_edit.ensures.capacity c.reserve_for.ensures.same c.requires.back

pub returns-in_err-add-clause-back : goal.returns-in_err-add-clause-back
returns-in_err-add-clause-back c =
    TakesBack-more c.args.chunks.now.before c.add.new.self.before c.args.runs.now.items c.prepare_edit.new.runs.items (vec_capacity c.args.runs.now) (vec_capacity c.prepare_edit.new.runs) c.args.log.now.items c.reserve_for.new.log.items c.add.ensures.before c.prepare_edit.ensures.same c.prepare_edit.ensures.capacity c.reserve_for.ensures.same c.requires.back

pub returns-clause-back : goal.returns-clause-back
returns-clause-back c =
    c.settle_logged.ensures.back c.add.new.self.before
    (TakesBack-more c.args.chunks.now.before c.add.new.self.before c.args.runs.now.items c.prepare_edit.new.runs.items (vec_capacity c.args.runs.now) (vec_capacity c.prepare_edit.new.runs) c.args.log.now.items c.reserve_for.new.log.items c.add.ensures.before c.prepare_edit.ensures.same c.prepare_edit.ensures.capacity c.reserve_for.ensures.same c.requires.back)
