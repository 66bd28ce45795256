use Rattle.std.proofs.Common.{◌∙◌, ◌+◌, length, ap}
use Rattle.std.proofs.lemmas.List.{length_push}
use Rattle.std.proofs.Common.{false}
use Rattle.druid_segment_rows.specs.Metrics.{unless_null}
use Rattle.druid_segment_rows.proofs.MetricLemmas.{marked_more}
use Rattle.druid_segment_rows.proofs.numbers.mark_numbers.Goals as goal

pub loop-preserved : goal.loop-preserved
loop-preserved c =
    let nulls = c.loop.nulls.items in
    record {
      same = λ numbers. ap (unless_null numbers) c.in_ok-push.ensures.items ∙ marked_more numbers nulls ∙ c.loop.invariant.same numbers;
      long = ap length c.in_ok-push.ensures.items ∙ length_push nulls false ∙ ap (λ n. n + 1) c.loop.invariant.long;
    }
