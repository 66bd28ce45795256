use Rattle.std.proofs.Common.{◌∙◌, Some, set, ap, arith}
use Rattle.druid_partial.specs.Partials.{kinds_of}
use Rattle.druid_partial_scan.specs.Scans.{counted_at}
use Rattle.druid_partial_scan.proofs.FlatLemmas.{filled_joined, filled_put}
use Rattle.druid_partial_scan.proofs.SliceLemmas.{filled_adds}
use Rattle.druid_partial_scan.proofs.scan.Scan.put_open.Goals as goal

pub returns-then-join-clause-adds : goal.returns-then-join-clause-adds
returns-then-join-clause-adds c = λ texts over.
    filled_adds texts c.args.self.now c.args.row c.cell_at-cell.result c.args.cells.now.groups c.join.new.cells.groups over c.requires.row c.join.ensures.words c.cell_at-cell.ensures.value
    (let below = c.cell_at-cell.ensures.inside in let wide = c.requires.room.long in omega (arith, below, wide))
    (filled_joined c.args.cells.now.groups c.join.new.cells.groups c.cell_at-cell.result (kinds_of c.args.self.now.query) (counted_at c.args.self.now c.args.row).key (counted_at c.args.self.now c.args.row).numbers c.join.result c.join.ensures.there c.if-join.true c.join.ensures.groups)

pub returns-clause-adds : goal.returns-clause-adds
returns-clause-adds c = λ texts over.
    filled_adds texts c.args.self.now c.args.row c.cell_at-cell.result c.args.cells.now.groups c.fill.new.cells.groups over c.requires.row c.join.ensures.words c.cell_at-cell.ensures.value
    (let below = c.cell_at-cell.ensures.inside in let wide = c.requires.room.long in omega (arith, below, wide))
    (filled_put c.args.cells.now.groups c.join.new.cells.groups c.fill.new.cells.groups c.cell_at-cell.result (kinds_of c.args.self.now.query) (counted_at c.args.self.now c.args.row).key (counted_at c.args.self.now c.args.row).numbers c.join.result c.join.ensures.there c.if-join.false c.join.ensures.groups
    (c.fill.ensures.groups ∙ ap (λ key. set c.join.new.cells.groups c.cell_at-cell.result (Some (key, (counted_at c.args.self.now c.args.row).numbers))) c.in_ok-key.ensures))
