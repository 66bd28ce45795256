use Rattle.std.proofs.Common.{◌≤◌, ◌+◌, [], ◌∷◌, length, map, refl, subst, arith}
use Rattle.druid_segment_id.specs.Group.{Group, group_of}
use Rattle.druid_timeline.specs.Chunks.{held_in}
use Rattle.druid_timeline.specs.Edited.{AreRunsEdited, IsOverlaid, spliced}
use Rattle.druid_timeline.specs.Pieces.{cut, shown_at}
use Rattle.druid_timeline.proofs.CountLemmas.{few_pieces}
use Rattle.druid_timeline.proofs.TurnLemmas.{pieces_overlaid}
use Rattle.druid_timeline.proofs.turn.turn_of.Goals as goal

pub returns-in_err-edit-clause-bound : goal.returns-in_err-edit-clause-bound
returns-in_err-edit-clause-bound c others all =
    let counted = subst (λ (g : Group). c.edit_overlaid.new.meter ≤ c.args.meter.now + length (cut (g.interval ∷ []) (map shown_at c.args.runs.now))) c.in_ok-own.ensures c.edit_overlaid.ensures.counted.1 in
    let few = few_pieces (held_in c.args.chunks.now) (group_of c.args.id.now) (map shown_at c.args.runs.now) others c.requires.pieces (c.requires.turned c.if-not-is_complete.false) all in
    omega (arith, counted, few)

pub returns-clause-pieces : goal.returns-clause-pieces
returns-clause-pieces c new alike is =
    let rs = c.args.runs.now in
    let own = c.if-not-is_complete.false in
    let edited = subst (λ (g : Group). AreRunsEdited g.interval (IsOverlaid (map shown_at rs) g) (map shown_at rs) (map shown_at (spliced rs c.in_ok-edit.edit.from c.in_ok-edit.edit.to c.in_ok-edit.edit.runs.items))) c.in_ok-own.ensures c.in_ok-edit.ensures.edited in
    pieces_overlaid (held_in c.args.chunks.now) (group_of c.args.id.now) (map shown_at rs) (map shown_at (spliced rs c.in_ok-edit.edit.from c.in_ok-edit.edit.to c.in_ok-edit.edit.runs.items)) c.requires.pieces (c.requires.turned own) edited new alike
    (λ _. is.0 own, λ _. refl)

pub returns-clause-bound : goal.returns-clause-bound
returns-clause-bound c others all =
    let counted = subst (λ (g : Group). c.edit_overlaid.new.meter ≤ c.args.meter.now + length (cut (g.interval ∷ []) (map shown_at c.args.runs.now))) c.in_ok-own.ensures c.edit_overlaid.ensures.counted.1 in
    let few = few_pieces (held_in c.args.chunks.now) (group_of c.args.id.now) (map shown_at c.args.runs.now) others c.requires.pieces (c.requires.turned c.if-not-is_complete.false) all in
    omega (arith, counted, few)
