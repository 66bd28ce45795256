use Rattle.druid_segment_rows.proofs.TableLemmas.{numbers_of_table}
use Rattle.druid_segment_rows.proofs.table.Table.numbers.Goals as goal

pub returns : goal.returns
returns c =
    let a = c.self.inside in
    numbers_of_table a.times.items a.dimensions.items a.metrics.items c.args.self.now c.args.metric c.index.result.now c.self.view_is c.self.invariant.1 c.requires c.index.ensures
