use Rattle.std.proofs.Common.{drop}
use Rattle.druid_timeline.proofs.SkylineLemmas.{borrowed, IsSkylineOf-kept}
use Rattle.druid_timeline.proofs.skyline.advance.Goals as goal

pub let_go-requires : goal.let_go-requires
let_go-requires c = c.in_ok-place.ensures.split.order

pub returns-clause-split : goal.returns-clause-split
returns-clause-split c =
    IsSkylineOf-kept (borrowed c.args.sorted.now) (drop c.in_ok-place.place (borrowed c.args.sorted.now)) (borrowed c.take_started.new.sky.items) (borrowed c.let_go.new.sky.items) c.args.to c.let_go.ensures.order c.let_go.ensures.among c.let_go.ensures.gone c.in_ok-place.ensures.split
