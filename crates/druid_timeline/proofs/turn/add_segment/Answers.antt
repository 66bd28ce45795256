use Rattle.std.proofs.Common.{◌≡◌, ◌↔◌, ◌≤◌, ◌+◌, ◌*◌, ◌∙◌, List, [], ◌∷◌, length, map, sym, ap, subst}
use Rattle.std.specs.Bool.{IsTrue}
use Rattle.druid_segment_id.specs.Group.{Group, group_of}
use Rattle.druid_timeline_members.specs.Members.{member_of}
use Rattle.druid_timeline_chunks.specs.Chunks.{members_at}
use Rattle.druid_base.proofs.ClauseLemmas.{always_err}
use Rattle.druid_timeline.specs.Chunks.{held_in}
use Rattle.druid_timeline.specs.Edited.{ArePiecesThen, HasOthers}
use Rattle.druid_timeline.specs.Exchanges.{settled}
use Rattle.druid_timeline.specs.Holding.{IsCompleteIn, SameHeld}
use Rattle.druid_timeline.specs.Pieces.{ArePieces, cut, shown_at}
use Rattle.druid_timeline.proofs.ChunkLemmas.{IsHeld-chunk, IsCompleteIn-at, SameHeld-chunk, AddsHeld-chunk}
use Rattle.druid_timeline.proofs.CountLemmas.{met_of}
use Rattle.druid_timeline.proofs.SweepLemmas.{Run}
use Rattle.druid_timeline.proofs.TurnLemmas.{alike_chunks, level_claim, pieces_same}
use Rattle.druid_timeline.proofs.turn.add_segment.Goals as goal

pub add-requires : goal.add-requires
add-requires c = λ place. c.requires.new ((IsHeld-chunk c.args.chunks.now c.is_complete_with-is_complete.ensures.chunks c.args.node c.args.descriptor.now.id).1 place)

pub returns-in_err-add-clause-pieces : goal.returns-in_err-add-clause-pieces
returns-in_err-add-clause-pieces c =
    let same = SameHeld-chunk c.args.chunks.now c.add.new.self (group_of c.args.descriptor.now.id) c.add.ensures.was c.add.ensures.chunks c.add.ensures.others c.in_err-add.ensures.err in
    pieces_same (held_in c.args.chunks.now) (held_in c.add.new.self) (map shown_at c.prepare_edit.new.runs.items) same
    (subst (λ (items : List Run). ArePieces (held_in c.args.chunks.now) (map shown_at items)) (sym c.prepare_edit.ensures.same) c.requires.pieces)

pub returns-in_err-add-clause-err : goal.returns-in_err-add-clause-err
returns-in_err-add-clause-err c =
    always_err c.from_residual-in_err-add.result (SameHeld (held_in c.args.chunks.now) (held_in c.add.new.self))
    (SameHeld-chunk c.args.chunks.now c.add.new.self (group_of c.args.descriptor.now.id) c.add.ensures.was c.add.ensures.chunks c.add.ensures.others c.in_err-add.ensures.err)

pub returns-clause-pieces : goal.returns-clause-pieces
returns-clause-pieces c =
    let at = IsCompleteIn-at c.add.new.self c.add.ensures.chunks (group_of c.args.descriptor.now.id) in
    let claim = c.is_complete_with-is_complete.ensures.complete (members_at c.add.new.self (group_of c.args.descriptor.now.id)) c.args.node c.in_ok-add.ensures.added in
    let is : IsTrue c.is_complete_with-is_complete.result ↔ IsCompleteIn (held_in c.add.new.self) (group_of c.args.descriptor.now.id) = (λ e. at.1 (claim.0 e), λ h. claim.1 (at.0 h)) in
    let alike = alike_chunks c.args.chunks.now c.add.new.self (group_of c.args.descriptor.now.id) c.add.ensures.was c.add.ensures.chunks c.add.ensures.others in
    let items = c.settle.ensures ∙ ap (λ (rs : List Run). settled rs c.in_ok-edit.edit) c.prepare_edit.ensures.same in
    subst (λ (rs : List Run). ArePieces (held_in c.add.new.self) (map shown_at rs)) (sym items) ((subst (λ (g : Group). ArePiecesThen (held_in c.args.chunks.now) g c.is_complete_with-is_complete.result (map shown_at (settled c.args.runs.now.items c.in_ok-edit.edit))) (ap group_of c.id.ensures.value) c.in_ok-edit.ensures.pieces) (held_in c.add.new.self) alike is)

pub returns-clause-added : goal.returns-clause-added
returns-clause-added c =
    AddsHeld-chunk c.args.chunks.now c.add.new.self (group_of c.args.descriptor.now.id) (member_of c.args.node c.args.descriptor.now) c.add.ensures.was c.add.ensures.chunks c.add.ensures.others c.in_ok-add.ensures.added

pub returns-in_err-edit-clause-bound : goal.returns-in_err-edit-clause-bound
returns-in_err-edit-clause-bound c = (subst (λ (g : Group). (others : List Group) → HasOthers (held_in c.args.chunks.now) g others → c.prepare_edit.new.meter ≤ c.args.meter.now + 3 * length others + 1) (ap group_of c.id.ensures.value) c.prepare_edit.ensures.bound)

pub returns-in_err-edit-clause-met : goal.returns-in_err-edit-clause-met
returns-in_err-edit-clause-met c not pieces are =
    met_of (held_in c.args.chunks.now) (group_of c.args.descriptor.now.id) (map shown_at c.args.runs.now.items) pieces c.args.meter.now c.prepare_edit.new.meter c.requires.pieces are ((subst (λ (g : Group). (IsCompleteIn (held_in c.args.chunks.now) g → ⊥) → c.prepare_edit.new.meter ≤ c.args.meter.now + length (cut (g.interval ∷ []) (map shown_at c.args.runs.now.items))) (ap group_of c.id.ensures.value) c.prepare_edit.ensures.met) not)

pub returns-in_err-add-clause-bound : goal.returns-in_err-add-clause-bound
returns-in_err-add-clause-bound c = (subst (λ (g : Group). (others : List Group) → HasOthers (held_in c.args.chunks.now) g others → c.prepare_edit.new.meter ≤ c.args.meter.now + 3 * length others + 1) (ap group_of c.id.ensures.value) c.prepare_edit.ensures.bound)

pub returns-in_err-add-clause-met : goal.returns-in_err-add-clause-met
returns-in_err-add-clause-met c not pieces are =
    met_of (held_in c.args.chunks.now) (group_of c.args.descriptor.now.id) (map shown_at c.args.runs.now.items) pieces c.args.meter.now c.prepare_edit.new.meter c.requires.pieces are ((subst (λ (g : Group). (IsCompleteIn (held_in c.args.chunks.now) g → ⊥) → c.prepare_edit.new.meter ≤ c.args.meter.now + length (cut (g.interval ∷ []) (map shown_at c.args.runs.now.items))) (ap group_of c.id.ensures.value) c.prepare_edit.ensures.met) not)

pub returns-clause-bound : goal.returns-clause-bound
returns-clause-bound c = (subst (λ (g : Group). (others : List Group) → HasOthers (held_in c.args.chunks.now) g others → c.prepare_edit.new.meter ≤ c.args.meter.now + 3 * length others + 1) (ap group_of c.id.ensures.value) c.prepare_edit.ensures.bound)

pub returns-clause-met : goal.returns-clause-met
returns-clause-met c not pieces are =
    met_of (held_in c.args.chunks.now) (group_of c.args.descriptor.now.id) (map shown_at c.args.runs.now.items) pieces c.args.meter.now c.prepare_edit.new.meter c.requires.pieces are ((subst (λ (g : Group). (IsCompleteIn (held_in c.args.chunks.now) g → ⊥) → c.prepare_edit.new.meter ≤ c.args.meter.now + length (cut (g.interval ∷ []) (map shown_at c.args.runs.now.items))) (ap group_of c.id.ensures.value) c.prepare_edit.ensures.met) not)

pub returns-clause-level : goal.returns-clause-level
returns-clause-level c level =
    let at = IsCompleteIn-at c.add.new.self c.add.ensures.chunks (group_of c.args.descriptor.now.id) in
    let claim = c.is_complete_with-is_complete.ensures.complete (members_at c.add.new.self (group_of c.args.descriptor.now.id)) c.args.node c.in_ok-add.ensures.added in
    let is : IsTrue c.is_complete_with-is_complete.result ↔ IsCompleteIn (held_in c.add.new.self) (group_of c.args.descriptor.now.id) = (λ e. at.1 (claim.0 e), λ h. claim.1 (at.0 h)) in
    (subst (λ (g : Group). (IsTrue c.is_complete_with-is_complete.result ↔ IsCompleteIn (held_in c.args.chunks.now) g) → c.prepare_edit.new.meter ≡ c.args.meter.now) (ap group_of c.id.ensures.value) c.prepare_edit.ensures.level) (level_claim (IsCompleteIn (held_in c.args.chunks.now) (group_of c.args.descriptor.now.id)) (IsCompleteIn (held_in c.add.new.self) (group_of c.args.descriptor.now.id)) c.is_complete_with-is_complete.result is level)
