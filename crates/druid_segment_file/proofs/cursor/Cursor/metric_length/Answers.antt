use Rattle.std.proofs.Common.{◌≡◌, ◌∙◌, ◌*◌, Ok, Err, subst}
use Rattle.std.proofs.lemmas.Result.{err_from_is_err_and}
use Rattle.druid_segment_file.specs.Parts.{bytes_at}
use Rattle.druid_segment_file.proofs.JudgeLemmas.{metric_unmarked, metric_ends, metric_found}
use Rattle.druid_segment_file.proofs.cursor.Cursor.metric_length.Goals as goal

pub returns-in_err-present-clause-found : goal.returns-in_err-present-clause-found
returns-in_err-present-clause-found c =
    let p = err_from_is_err_and c.from_residual.result c.from_residual.ensures.1 in
    rw (p.1, p.2) (metric_unmarked c.args.self.now.short c.in_err-present.field-0.0 c.args.rows c.args.self.now.rest c.in_err-present.ensures.found)

pub returns-in_err-bytes-clause-found : goal.returns-in_err-bytes-clause-found
returns-in_err-bytes-clause-found c =
    let short = c.args.self.now.short in
    let mid = c.count_marks.new.self in
    let marks = c.in_ok-present.ensures.found in
    let n = c.in_ok-present.field-0 in
    let p = err_from_is_err_and c.from_residual-in_err-bytes.result c.from_residual-in_err-bytes.ensures.1 in
    let failed = subst (λ s. bytes_at s (8 * n) mid.rest ≡ Err c.in_err-bytes.field-0.0) marks.1 c.in_err-bytes.ensures in
    rw (p.1, p.2) (metric_ends short c.in_err-bytes.field-0.0 c.args.rows c.args.self.now.rest marks.0.0 mid.rest n marks.0.1 marks.0.2 failed)

pub returns-clause-found : goal.returns-clause-found
returns-clause-found c =
    let short = c.args.self.now.short in
    let mid = c.count_marks.new.self in
    let marks = c.in_ok-present.ensures.found in
    let n = c.in_ok-present.field-0 in
    let after = c.bytes.new.self in
    let read = subst (λ s. bytes_at s (8 * n) mid.rest ≡ Ok (c.in_ok-bytes.field-0.now, after.rest)) marks.1 c.in_ok-bytes.ensures.0 in
    (metric_found short c.args.rows c.args.self.now.rest marks.0.0 mid.rest n c.in_ok-bytes.field-0.now after.rest marks.0.1 marks.0.2 read, c.in_ok-bytes.ensures.1 ∙ marks.1)
