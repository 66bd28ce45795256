use Rattle.std.proofs.Common.{List, length, map, sym, ap, subst, arith, Bor}
use Rattle.druid_time.specs.Extent.{Has}
use Rattle.druid_segment_id.specs.Group.{Group, group_of}
use Rattle.druid_timeline.specs.Candidates.{IsBestOf}
use Rattle.druid_timeline.specs.Chunks.{held_in}
use Rattle.druid_timeline.specs.Edited.{AreRunsEdited, IsWithin, spliced}
use Rattle.druid_timeline.specs.Pieces.{Shows, shown_at}
use Rattle.druid_timeline.proofs.SkylineLemmas.{borrowed}
use Rattle.druid_timeline.proofs.TurnLemmas.{pieces_hidden, pieces_swept}
use Rattle.druid_timeline.proofs.turn.edit_without.Goals as goal

pub returns-in_default-clause-pieces : goal.returns-in_default-clause-pieces
returns-in_default-clause-pieces c =
    pieces_hidden (held_in c.args.chunks.now) (group_of c.args.id.now) (map shown_at c.args.runs.now) c.requires
    (λ t has s. c.in_default.ensures.covers t (subst (λ (g : Group). Has g.interval t) (sym c.in_ok-own.ensures) has) (subst (Shows (map shown_at c.args.runs.now) t) (sym c.in_ok-own.ensures) s))

pub sorted_others-requires : goal.sorted_others-requires
sorted_others-requires c = subst (λ (g : Group). IsWithin c.in-Some.hull g.interval) c.in_ok-own.ensures c.in-Some.ensures.within

pub returns-in_err-edit-clause-bound : goal.returns-in_err-edit-clause-bound
returns-in_err-edit-clause-bound c others all =
    let l = ap length c.deref.ensures.value in
    let few = c.in_ok-others.ensures.few others all in
    let counted = c.edit_swept.ensures.counted.1 in
    omega (arith, l, few, counted)

pub returns-clause-pieces : goal.returns-clause-pieces
returns-clause-pieces c =
    let own = c.in_ok-own.ensures in
    let rs = c.args.runs.now in
    let edited = subst (λ (xs : List (Bor Group)). AreRunsEdited c.in-Some.hull (IsBestOf (borrowed xs)) (map shown_at rs) (map shown_at (spliced rs c.in_ok-edit.edit.from c.in_ok-edit.edit.to c.in_ok-edit.edit.runs.items))) c.deref.ensures.value c.in_ok-edit.ensures.edited in
    pieces_swept c.args.chunks.now (group_of c.args.id.now) c.in-Some.hull (borrowed c.in_ok-others.others.items) (map shown_at rs) (map shown_at (spliced rs c.in_ok-edit.edit.from c.in_ok-edit.edit.to c.in_ok-edit.edit.runs.items))
    c.sorted_others.ensures.chunks c.in_ok-others.ensures.all
    (λ t has s. c.in-Some.ensures.covers t (subst (λ (g : Group). Has g.interval t) (sym own) has) (subst (Shows (map shown_at rs) t) (sym own) s))
    c.requires edited

pub returns-clause-bound : goal.returns-clause-bound
returns-clause-bound c others all =
    let l = ap length c.deref.ensures.value in
    let few = c.in_ok-others.ensures.few others all in
    let counted = c.edit_swept.ensures.counted.1 in
    omega (arith, l, few, counted)
