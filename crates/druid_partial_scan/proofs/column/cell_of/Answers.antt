use Rattle.std.proofs.Common.{◌∙◌, arith}
use Rattle.druid_partial_scan.proofs.CellLemmas.{column_step}
use Rattle.druid_partial_scan.proofs.column.cell_of.Goals as goal

pub code-requires : goal.code-requires
code-requires c =
    (column_step c.args.columns.now c.loop-column.column-index c.args.row c.loop-column.cell c.column-item.result (omega arith) c.column-item.is c.requires.codes).there

pub overflow_mul-cell : goal.overflow_mul-cell
overflow_mul-cell c =
    let s = column_step c.args.columns.now c.loop-column.column-index c.args.row c.loop-column.cell c.column-item.result (omega arith) c.column-item.is c.requires.codes in
    let fits = s.fits in let inside = c.loop-column.invariant.inside in let room = c.requires.room in let size = c.size.ensures in
    rw size (omega (arith, fits, inside, room))

pub overflow_add-cell : goal.overflow_add-cell
overflow_add-cell c =
    let s = column_step c.args.columns.now c.loop-column.column-index c.args.row c.loop-column.cell c.column-item.result (omega arith) c.column-item.is c.requires.codes in
    let fits = s.fits in let inside = c.loop-column.invariant.inside in let room = c.requires.room in
    rw c.size.ensures (rw c.code.ensures (omega (arith, fits, inside, room)))

pub loop-column-preserved : goal.loop-column-preserved
loop-column-preserved c =
    let s = column_step c.args.columns.now c.loop-column.column-index c.args.row c.loop-column.cell c.column-item.result (omega arith) c.column-item.is c.requires.codes in
    let inside = s.inside in let before = c.loop-column.invariant.inside in
    rw c.size.ensures (rw c.code.ensures (record {
      value = s.value ∙ c.loop-column.invariant.value;
      inside = omega (arith, inside, before);
    }))
