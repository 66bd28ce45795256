use Rattle.std.proofs.Common.{◌≡◌, refl, ap, ◌∙◌, subst}
use Rattle.druid_segment_descriptor.specs.Described.{Described, IsDescribed}
use Rattle.druid_segment_descriptor.specs.declared.change.Change.TheVariants.{Load}
use Rattle.druid_node.specs.Held.{IsWhole, state_of}
use Rattle.druid_node.proofs.StateLemmas.{IsReady, ready_strict, ready_room, loaded-state, loaded-takes, loaded-there, loaded-undone, same_state, state_stays, recorded_as}
use Rattle.druid_node.proofs.state.put.Goals as goal

pub insert-requires-clause-strict : goal.insert-requires-clause-strict
insert-requires-clause-strict c =
    let now = state_of c.args.history.now c.args.held.now in
    let ready : IsReady now (Load c.args.segment.descriptor) = record { valid = c.requires.state; set = c.len-held.ensures.valid; kept = c.mark-mark.ensures.kept; taken = c.requires.taken } in
    ready_strict now c.args.segment.descriptor ready

pub insert-requires-clause-room : goal.insert-requires-clause-room
insert-requires-clause-room c =
    let now = state_of c.args.history.now c.args.held.now in
    let ready : IsReady now (Load c.args.segment.descriptor) = record { valid = c.requires.state; set = c.len-held.ensures.valid; kept = c.mark-mark.ensures.kept; taken = c.requires.taken } in
    ready_room now c.args.segment.descriptor ready

pub returns-in-Ok-clause-ok : goal.returns-in-Ok-clause-ok
returns-in-Ok-clause-ok c =
    let now = state_of c.args.history.now c.args.held.now in
    let ready : IsReady now (Load c.args.segment.descriptor) = record { valid = c.requires.state; set = c.len-held.ensures.valid; kept = c.mark-mark.ensures.kept; taken = c.requires.taken } in
    let same : c.in_ok-descriptor.descriptor ≡ c.args.segment.descriptor = c.in_ok-descriptor.ensures.cases ∙ c.descriptor.ensures.value in
    let whole : IsWhole c.args.segment = record { described = subst IsDescribed same c.id.ensures.valid; valid = c.descriptor.ensures.valid; words = c.descriptor.ensures.words } in
    let recorded = recorded_as c.args.history.now c.record.new.self c.in_ok-descriptor.descriptor c.args.segment.descriptor same c.in-Ok.ensures.place c.in-Ok.ensures.stands c.requires.taken in
    loaded-takes now c.args.segment c.record.new.self c.insert.new.self ready whole c.in_ok-insert.ensures.inserted recorded

pub returns-in-Ok-clause-state : goal.returns-in-Ok-clause-state
returns-in-Ok-clause-state c =
    let now = state_of c.args.history.now c.args.held.now in
    let ready : IsReady now (Load c.args.segment.descriptor) = record { valid = c.requires.state; set = c.len-held.ensures.valid; kept = c.mark-mark.ensures.kept; taken = c.requires.taken } in
    let same : c.in_ok-descriptor.descriptor ≡ c.args.segment.descriptor = c.in_ok-descriptor.ensures.cases ∙ c.descriptor.ensures.value in
    let whole : IsWhole c.args.segment = record { described = subst IsDescribed same c.id.ensures.valid; valid = c.descriptor.ensures.valid; words = c.descriptor.ensures.words } in
    let recorded = recorded_as c.args.history.now c.record.new.self c.in_ok-descriptor.descriptor c.args.segment.descriptor same c.in-Ok.ensures.place c.in-Ok.ensures.stands c.requires.taken in
    loaded-state now c.args.segment c.record.new.self c.insert.new.self ready whole c.in_ok-insert.ensures.inserted recorded

pub remove-requires : goal.remove-requires
remove-requires c =
    let now = state_of c.args.history.now c.args.held.now in
    let ready : IsReady now (Load c.args.segment.descriptor) = record { valid = c.requires.state; set = c.len-held.ensures.valid; kept = c.mark-mark.ensures.kept; taken = c.requires.taken } in
    let same : c.in_ok-descriptor.descriptor ≡ c.args.segment.descriptor = c.in_ok-descriptor.ensures.cases ∙ c.descriptor.ensures.value in
    let whole : IsWhole c.args.segment = record { described = subst IsDescribed same c.id.ensures.valid; valid = c.descriptor.ensures.valid; words = c.descriptor.ensures.words } in
    let id = c.in_ok-id.ensures.cases ∙ c.id.ensures.value ∙ ap (λ (d : Described). d.id) same in
    loaded-there now c.args.segment c.in_ok-id.id c.insert.new.self ready whole c.in_ok-insert.ensures.inserted id

pub returns-clause-unchanged : goal.returns-clause-unchanged
returns-clause-unchanged c =
    let now = state_of c.args.history.now c.args.held.now in
    let ready : IsReady now (Load c.args.segment.descriptor) = record { valid = c.requires.state; set = c.len-held.ensures.valid; kept = c.mark-mark.ensures.kept; taken = c.requires.taken } in
    let same : c.in_ok-descriptor.descriptor ≡ c.args.segment.descriptor = c.in_ok-descriptor.ensures.cases ∙ c.descriptor.ensures.value in
    let whole : IsWhole c.args.segment = record { described = subst IsDescribed same c.id.ensures.valid; valid = c.descriptor.ensures.valid; words = c.descriptor.ensures.words } in
    let id = c.in_ok-id.ensures.cases ∙ c.id.ensures.value ∙ ap (λ (d : Described). d.id) same in
    same_state now now c.record.new.self c.remove.new.self refl c.in-Err.ensures.unchanged
    (loaded-undone now c.args.segment c.in_ok-id.id c.insert.new.self c.remove.new.self ready whole c.in_ok-insert.ensures.inserted id c.remove.ensures.removed)

pub returns-clause-state : goal.returns-clause-state
returns-clause-state c =
    let now = state_of c.args.history.now c.args.held.now in
    let ready : IsReady now (Load c.args.segment.descriptor) = record { valid = c.requires.state; set = c.len-held.ensures.valid; kept = c.mark-mark.ensures.kept; taken = c.requires.taken } in
    let same : c.in_ok-descriptor.descriptor ≡ c.args.segment.descriptor = c.in_ok-descriptor.ensures.cases ∙ c.descriptor.ensures.value in
    let whole : IsWhole c.args.segment = record { described = subst IsDescribed same c.id.ensures.valid; valid = c.descriptor.ensures.valid; words = c.descriptor.ensures.words } in
    let id = c.in_ok-id.ensures.cases ∙ c.id.ensures.value ∙ ap (λ (d : Described). d.id) same in
    state_stays now c.record.new.self c.remove.new.self c.requires.state c.in-Err.ensures.unchanged
    (loaded-undone now c.args.segment c.in_ok-id.id c.insert.new.self c.remove.new.self ready whole c.in_ok-insert.ensures.inserted id c.remove.ensures.removed)
