use Rattle.druid_segment_rows.proofs.TableLemmas.{column_of_table}
use Rattle.druid_segment_rows.proofs.table.Table.dimension_column.Goals as goal

pub returns : goal.returns
returns c =
    let a = c.self.inside in
    column_of_table a.times.items a.dimensions.items a.metrics.items c.args.self.now c.args.dimension c.index.result.now c.self.view_is c.self.invariant.0 c.requires c.index.ensures
