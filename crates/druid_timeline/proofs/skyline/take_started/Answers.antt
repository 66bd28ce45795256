use Rattle.std.proofs.Common.{◌<◌, ◌≤◌, arith, rules}
use Rattle.druid_timeline.proofs.SkylineLemmas.{borrowed, borrowed_at, borrowed_within, start_from, IsSkylineOf-take}
use Rattle.druid_timeline.proofs.skyline.take_started.Goals as goal

pub returns-then-lt-clause-later : goal.returns-then-lt-clause-later
returns-then-lt-clause-later c g there =
    let below : c.args.to < c.index-sorted-place.result.now.interval.start = search rules in
    let from = start_from (borrowed c.args.sorted.now) c.loop-place.place c.index-sorted-place.result.now.interval.start c.index-sorted-place.result.now c.requires.order (borrowed_within c.args.sorted.now c.loop-place.place c.loop-place-test.true)
    (borrowed_at c.args.sorted.now c.loop-place.place c.index-sorted-place.result c.loop-place-test.true c.index-sorted-place.is) (omega arith) g there in
    omega (arith, below, from)

pub take_in-requires : goal.take_in-requires
take_in-requires c = c.loop-place.invariant.split.order

pub returns-in_err-take_in-clause-counted : goal.returns-in_err-take_in-clause-counted
returns-in_err-take_in-clause-counted c =
    let counted = c.take_in.ensures.counted in
    let low = c.loop-place.invariant.low in
    let high = c.loop-place.invariant.high in
    (omega (arith, low, counted.0), omega (arith, counted.1, high, c.loop-place-test.true))

pub loop-place-preserved : goal.loop-place-preserved
loop-place-preserved c =
    let counted = c.take_in.ensures.counted in
    let low = c.loop-place.invariant.low in
    let high = c.loop-place.invariant.high in
    let paid = c.in_ok-take_in.ensures.paid in
    let started : c.index-sorted-place.result.now.interval.start ≤ c.args.to = search rules in
    record {
      split =
          IsSkylineOf-take (borrowed c.args.sorted.now) c.loop-place.place c.args.to (borrowed c.loop-place.sky.items) (borrowed c.take_in.new.sky.items) c.index-sorted-place.result.now (borrowed_within c.args.sorted.now c.loop-place.place c.loop-place-test.true)
          (borrowed_at c.args.sorted.now c.loop-place.place c.index-sorted-place.result c.loop-place-test.true c.index-sorted-place.is) started
          c.in_ok-take_in.ensures.order c.in_ok-take_in.ensures.among c.in_ok-take_in.ensures.covered c.in_ok-take_in.ensures.kept c.loop-place.invariant.split;
      inside = omega (arith, c.loop-place-test.true);
      low = omega (arith, low, counted.0);
      high = omega (arith, paid, high, c.loop-place-test.true);
    }
