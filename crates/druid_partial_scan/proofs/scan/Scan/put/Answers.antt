use Rattle.std.proofs.Common.{arith}
use Rattle.druid_partial.specs.Partials.{kinds_of}
use Rattle.druid_partial_scan.specs.Scans.{counted_at}
use Rattle.druid_partial_scan.proofs.FlatLemmas.{filled_joined, filled_put}
use Rattle.druid_partial_scan.proofs.PutLemmas.{row_joined}
use Rattle.druid_partial_scan.proofs.scan.Scan.put.Goals as goal

pub returns-then-join-clause-joined : goal.returns-then-join-clause-joined
returns-then-join-clause-joined c =
    row_joined c.args.self.now c.args.row c.cell_at-cell.result c.args.cells.now.groups c.join.new.cells.groups c.cell_at-cell.ensures.columns c.requires.row c.join.ensures.words c.cell_at-cell.ensures.value
    (let below = c.cell_at-cell.ensures.inside in let wide = c.requires.room.long in omega (arith, below, wide))
    (filled_joined c.args.cells.now.groups c.join.new.cells.groups c.cell_at-cell.result (kinds_of c.args.self.now.query) c.args.row (counted_at c.args.self.now c.args.row).numbers c.join.result c.join.ensures.there c.if-join.true c.join.ensures.groups)

pub returns-clause-joined : goal.returns-clause-joined
returns-clause-joined c =
    row_joined c.args.self.now c.args.row c.cell_at-cell.result c.args.cells.now.groups c.fill.new.cells.groups c.cell_at-cell.ensures.columns c.requires.row c.join.ensures.words c.cell_at-cell.ensures.value
    (let below = c.cell_at-cell.ensures.inside in let wide = c.requires.room.long in omega (arith, below, wide))
    (filled_put c.args.cells.now.groups c.join.new.cells.groups c.fill.new.cells.groups c.cell_at-cell.result (kinds_of c.args.self.now.query) c.args.row (counted_at c.args.self.now c.args.row).numbers c.join.result c.join.ensures.there c.if-join.false c.join.ensures.groups c.fill.ensures.groups)
