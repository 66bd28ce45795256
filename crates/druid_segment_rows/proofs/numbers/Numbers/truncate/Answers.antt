use Rattle.std.proofs.Common.{◌∙◌, take, ap}
use Rattle.druid_segment_rows.specs.Metrics.{unless_null}
use Rattle.druid_segment_rows.proofs.MetricLemmas.{take_values}
use Rattle.druid_segment_rows.proofs.numbers.Numbers.truncate.Goals as goal

pub returns : goal.returns
returns c =
    let it = c.self.inside in
    ap (λ ns. unless_null ns c.truncate-2.new.self.items) c.truncate.ensures.items
    ∙ ap (unless_null (take c.args.len it.numbers.items)) c.truncate-2.ensures.items
    ∙ take_values c.args.len it.numbers.items it.nulls.items
    ∙ ap (take c.args.len) c.self.view_is
