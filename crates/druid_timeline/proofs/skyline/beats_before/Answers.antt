use Rattle.std.proofs.Common.{◌-◌, ◌<◌, rules, arith}
use Rattle.druid_timeline.proofs.SkylineLemmas.{borrowed, borrowed_at, beats_all, beaten_by_last, length-borrowed}
use Rattle.druid_timeline.proofs.skyline.beats_before.Goals as goal

pub returns-clause-best : goal.returns-clause-best
returns-clause-best c above =
    let pos : 0 < c.args.place = search rules in
    let l = length-borrowed c.args.sky.now in
    beats_all (borrowed c.args.sky.now) c.args.place c.index-sky-place.result.now c.args.key.now c.requires.order pos (omega (arith, l, c.requires.within))
    (borrowed_at c.args.sky.now (c.args.place - 1) c.index-sky-place.result (omega (arith, pos, c.requires.within)) c.index-sky-place.is) (c.beats.ensures.answer.0 above)

pub returns-clause-beaten : goal.returns-clause-beaten
returns-clause-beaten c below =
    let pos : 0 < c.args.place = search rules in
    let l = length-borrowed c.args.sky.now in
    beaten_by_last (borrowed c.args.sky.now) c.args.place c.index-sky-place.result.now c.args.key.now c.requires.order pos (omega (arith, l, c.requires.within))
    (borrowed_at c.args.sky.now (c.args.place - 1) c.index-sky-place.result (omega (arith, pos, c.requires.within)) c.index-sky-place.is) (λ above. below (c.beats.ensures.answer.1 above))
