use Rattle.std.proofs.Common.{◌∙◌}
use Rattle.druid_segment_rows.proofs.TableLemmas.{times_of_table}
use Rattle.druid_segment_rows.proofs.table.Table.times.Goals as goal

pub returns : goal.returns
returns c =
    let a = c.self.inside in
    c.deref.ensures.value ∙ times_of_table a.times.items a.dimensions.items a.metrics.items c.args.self.now c.self.view_is
