use Rattle.std.proofs.Common.{◌<◌, ◌≤◌, length, ap, arith, rules}
use Rattle.std.proofs.lemmas.List.{length-map}
use Rattle.druid_segment_rows.specs.Columns.{value_at}
use Rattle.druid_segment_rows.proofs.ColumnLemmas.{code_inside, text_found}
use Rattle.druid_segment_rows.proofs.column.Column.get.Goals as goal

pub get-requires : goal.get-requires
get-requires c =
    let a = c.self.inside in
    let within : c.args.row < length a.codes.items = omega (arith, ap length c.self.view_is, length-map a.codes.items (value_at a.values), c.requires) in
    let some : 1 ≤ c.index.result.now = search rules in
    code_inside a.values a.codes.items c.args.row c.index.result.now c.self.invariant.1 within some c.index.ensures

pub returns-in_default : goal.returns-in_default
returns-in_default c =
    let a = c.self.inside in
    let within : c.args.row < length a.codes.items = omega (arith, ap length c.self.view_is, length-map a.codes.items (value_at a.values), c.requires) in
    let some : 1 ≤ c.index.result.now = search rules in
    text_found a.values a.codes.items c.args.self.now c.args.row c.index.result.now c.get.result.now c.self.view_is c.self.invariant.1 within some c.index.ensures c.get.ensures
