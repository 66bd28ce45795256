use Rattle.std.proofs.Common.{List, None, subst, arith}
use Rattle.std.proofs.lemmas.List.{take_all}
use Rattle.druid_segment_id.specs.Group.{Group}
use Rattle.druid_timeline.proofs.SkylineLemmas.{borrowed, length-borrowed}
use Rattle.druid_timeline.proofs.WholeLemmas.{IsHullOver, IsHullOver-none, IsHullOver-more}
use Rattle.druid_timeline.proofs.visible_pieces.hull_over.Goals as goal

pub loop-place-init : goal.loop-place-init
loop-place-init c = IsHullOver-none (borrowed c.args.keys.now) None

pub loop-place-preserved : goal.loop-place-preserved
loop-place-preserved c =
    IsHullOver-more c.args.keys.now c.loop-place.place c.index-keys-place.result c.interval.result c.loop-place.hull c.widened-hull.result c.loop-place-test.true c.index-keys-place.is c.interval.ensures.value
    c.widened-hull.ensures.covers c.loop-place.invariant

pub returns : goal.returns
returns c =
    let l = length-borrowed c.args.keys.now in
    subst (λ (gs : List Group). IsHullOver gs c.loop-place.hull) (take_all c.loop-place.place (borrowed c.args.keys.now) (omega (arith, l, c.loop-place-test.false))) c.loop-place.invariant
