use Rattle.std.proofs.lemmas.Result.{err_from_is_err_and}
use Rattle.druid_segment_file.proofs.BuildLemmas.{rows_same, rows_fault}
use Rattle.druid_segment_file.proofs.cursor.Cursor.validate_rows.Goals as goal

pub returns-in_err-skip_rows-clause-fault : goal.returns-in_err-skip_rows-clause-fault
returns-in_err-skip_rows-clause-fault c =
    let j = c.in_ok-judged.judged in
    let short = c.args.self.now.short in
    let mid = c.head.new.self in
    let fault = c.in_err-skip_rows.field-0.0 in
    let p = err_from_is_err_and c.from_residual-in_err-skip_rows.result c.from_residual-in_err-skip_rows.ensures.1 in
    let failed = rows_same short mid.short c.shape_of-shape.result j.announcement j.fields j.count mid.rest _ c.in_ok-judged.ensures.short c.shape_of-shape.ensures c.in_err-skip_rows.ensures in
    rw (p.1, p.2) (rows_fault short fault c.args.self.now.rest j.announcement j.fields j.count mid.rest c.in_ok-judged.ensures.head failed)
