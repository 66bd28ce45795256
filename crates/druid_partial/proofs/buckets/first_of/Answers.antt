use Rattle.std.proofs.Common.{rules, ap, ◌∙◌}
use Rattle.druid_partial.specs.First.{joined}
use Rattle.druid_partial.proofs.BucketLemmas.{first_next}
use Rattle.druid_partial.proofs.buckets.first_of.Goals as goal

pub loop-interval-preserved : goal.loop-interval-preserved
loop-interval-preserved c =
    first_next c.args.intervals.now c.loop-interval.interval-index c.interval-item.result c.loop-interval.first c.earlier-first.result (search rules) (search rules) c.loop-interval.invariant
    (c.earlier-first.ensures ∙ ap (joined c.loop-interval.first) c.start.ensures.value)
