use Rattle.std.proofs.Common.{length, ap, ◌∙◌, arith}
use Rattle.druid_timeline.proofs.SkylineLemmas.{borrowed_replaced, length-taken_out}
use Rattle.druid_timeline.proofs.skyline.replace.Goals as goal

pub insert-requires : goal.insert-requires
insert-requires c =
    let l = ap length c.take_out.ensures ∙ length-taken_out c.args.sky.now.items c.args.from c.args.to c.requires.within.0 c.requires.within.1 in
    omega (arith, l, c.requires.within.0, c.requires.within.1)

pub returns : goal.returns
returns c =
    borrowed_replaced c.args.sky.now.items c.take_out.new.sky.items c.insert.new.self.items c.args.from c.args.to c.args.key c.requires.within.0 c.requires.within.1 c.take_out.ensures c.in_ok-insert.ensures.items
