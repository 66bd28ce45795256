use Rattle.std.proofs.Common.{◌≡◌, ◌-◌, ◌+◌, ◌<◌, ◌^◌, ℕ, sym, subst, arith}
use Rattle.std.specs.Int.{w64, leading_zeros}
use Rattle.druid_timeline_chunks.proofs.PlaceLemmas.{class_small, class_bound}
use Rattle.druid_timeline_chunks.proofs.place.class_of.Goals as goal

pub returns-clause-below : goal.returns-clause-below
returns-clause-below c =
    let e : c.since_first.result - c.since_first-2.result ≡ c.args.interval.end - c.args.interval.start = omega (arith, c.since_first.ensures.value, c.since_first-2.ensures.value, c.start.ensures.value, c.end.ensures.value) in
    subst (λ (n : ℕ). 63 - leading_zeros w64 n < 63) (sym e) (class_small c.args.interval c.start.ensures.valid)

pub returns-clause-bound : goal.returns-clause-bound
returns-clause-bound c =
    let e : c.since_first.result - c.since_first-2.result ≡ c.args.interval.end - c.args.interval.start = omega (arith, c.since_first.ensures.value, c.since_first-2.ensures.value, c.start.ensures.value, c.end.ensures.value) in
    subst (λ (n : ℕ). c.args.interval.end - c.args.interval.start < 2 ^ (63 - leading_zeros w64 n + 1)) (sym e) (class_bound c.args.interval c.start.ensures.valid)
