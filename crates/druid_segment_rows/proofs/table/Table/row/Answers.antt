use Rattle.std.proofs.Common.{◌∙◌, ◌<◌, length, All, sym, subst, arith, ap}
use Rattle.druid_segment_rows.specs.Rows.{Row, row_of}
use Rattle.druid_segment_rows.specs.Columns.{across}
use Rattle.druid_segment_rows.proofs.TableLemmas.{length_of_table, row_of_table, all_reach}
use Rattle.druid_segment_rows.proofs.table.Table.row.Goals as goal

pub texts_across-requires : goal.texts_across-requires
texts_across-requires c =
    let a = c.self.inside in
    let long = length_of_table a.times.items a.dimensions.items a.metrics.items c.args.self.now c.self.view_is in
    let within : c.args.row < length a.times.items = omega (arith, long, c.requires) in
    subst (λ columns. All (λ column. c.args.row < length column) columns) (sym c.deref.ensures.value) (all_reach c.args.row (length a.times.items) a.dimensions.items within c.self.invariant.0)

pub numbers_across-requires : goal.numbers_across-requires
numbers_across-requires c =
    let a = c.self.inside in
    let long = length_of_table a.times.items a.dimensions.items a.metrics.items c.args.self.now c.self.view_is in
    let within : c.args.row < length a.times.items = omega (arith, long, c.requires) in
    subst (λ columns. All (λ column. c.args.row < length column) columns) (sym c.deref-2.ensures.value) (all_reach c.args.row (length a.times.items) a.metrics.items within c.self.invariant.1)

pub returns : goal.returns
returns c =
    let a = c.self.inside in
    let row = row_of_table a.times.items a.dimensions.items a.metrics.items c.args.self.now c.args.row c.self.view_is c.requires in
    let time = c.time.ensures ∙ ap (λ (r : Row). r.time) row in
    let dimensions = c.in_ok-dimensions.ensures ∙ ap (λ columns. across columns c.args.row) c.deref.ensures.value in
    let metrics = c.in_ok-metrics.ensures ∙ ap (λ columns. across columns c.args.row) c.deref-2.ensures.value in
    c.new.ensures ∙ (λ i. row_of (time i) (dimensions i) (metrics i)) ∙ sym row
