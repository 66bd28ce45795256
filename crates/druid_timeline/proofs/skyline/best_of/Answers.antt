use Rattle.std.proofs.Common.{◌-◌, ◌<◌, length, get_or, sym, ap, ◌∙◌, rules, arith}
use Rattle.druid_timeline.proofs.SkylineLemmas.{borrowed, borrowed_at, IsTop-last, length-borrowed}
use Rattle.druid_timeline.proofs.skyline.best_of.Goals as goal

pub returns : goal.returns
returns c =
    let pos : 0 < length c.args.sky.now = search rules in
    let l = length-borrowed c.args.sky.now in
    let at = borrowed_at c.args.sky.now (length c.args.sky.now - 1) c.index-sky-sky.result (omega (arith, pos)) c.index-sky-sky.is in
    IsTop-last (borrowed c.args.sky.now) c.index-sky-sky.result.now c.requires (omega (arith, pos, l)) (at ∙ ap (λ n. get_or (borrowed c.args.sky.now) (n - 1) c.index-sky-sky.result.now) (sym l))
