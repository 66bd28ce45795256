use Rattle.std.proofs.Common.{◌∙◌, sym, ◌<◌, length, arith, rules}
use Rattle.std.proofs.lemmas.List.{get_or_default}
use Rattle.druid_segment_rows.proofs.TableLemmas.{length_of_table, time_of_row}
use Rattle.druid_segment_rows.proofs.table.Table.time.Goals as goal

pub index-requires : goal.index-requires
index-requires c =
    let a = c.self.inside in
    let long = length_of_table a.times.items a.dimensions.items a.metrics.items c.args.self.now c.self.view_is in
    let within : c.args.row < length a.times.items = omega (arith, long, c.requires) in
    search (rules)

pub returns : goal.returns
returns c =
    let a = c.self.inside in
    let long = length_of_table a.times.items a.dimensions.items a.metrics.items c.args.self.now c.self.view_is in
    let within : c.args.row < length a.times.items = omega (arith, long, c.requires) in
    c.index.ensures ∙ get_or_default a.times.items c.args.row c.index.result.now 0 within ∙ sym (time_of_row a.times.items a.dimensions.items a.metrics.items c.args.self.now c.args.row c.self.view_is c.requires)
