use Rattle.std.proofs.Common.{◌∙◌, length, ap, sym}
use Rattle.druid_segment_rows.proofs.MetricLemmas.{length_values}
use Rattle.druid_segment_rows.proofs.numbers.Numbers.len.Goals as goal

pub returns : goal.returns
returns c =
    let numbers = c.self.inside.numbers in
    c.len.ensures ∙ numbers.ok.0 ∙ sym (length_values numbers.items c.self.inside.nulls.items) ∙ ap length c.self.view_is
