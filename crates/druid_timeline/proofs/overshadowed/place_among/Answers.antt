use Rattle.std.proofs.Common.{◌≡◌, ◌∙◌, ◌+◌, ◌-◌, ◌/◌, ℕ, Less, sym, subst, rules, arith}
use Rattle.druid_timeline.proofs.PlaceLemmas.{IsBetween, IsBetween-above, IsSorted-insert}
use Rattle.druid_timeline.proofs.overshadowed.place_among.Goals as goal

pub loop-low-preserved-then-eq : goal.loop-low-preserved-then-eq
loop-low-preserved-then-eq c =
    let less : c.place_order.result ≡ Less = search rules in record {
      between = IsBetween-above c.args.sorted.now c.args.key.now c.index-sorted-middle.result c.loop-low.low c.loop-low.high
          (c.loop-low.low + (c.loop-low.high - c.loop-low.low) / 2) c.loop-low.invariant.between (search rules) c.index-sorted-middle.is (sym c.place_order.ensures.order ∙ less);
      counted = search rules;
    }

pub returns-clause-sorted : goal.returns-clause-sorted
returns-clause-sorted c sorted =
    let apart = c.loop-low.invariant.between.apart in
    let met : c.loop-low.high ≡ c.loop-low.low = omega (arith, apart, c.loop-low-test.false) in
    IsSorted-insert c.args.sorted.now c.args.key.now c.loop-low.low
    (subst (λ (high : ℕ). IsBetween c.args.sorted.now c.args.key.now c.loop-low.low high) met c.loop-low.invariant.between) sorted
