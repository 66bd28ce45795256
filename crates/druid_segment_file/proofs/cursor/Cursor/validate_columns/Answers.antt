use Rattle.std.proofs.Common.{ap, sym, subst, arith, List, ℕ, length}
use Rattle.std.proofs.lemmas.Result.{err_from_is_err_and}
use Rattle.druid_segment_file.specs.Builder.{IsWholeByColumns}
use Rattle.druid_segment_file.proofs.PartLemmas.{IsBytes}
use Rattle.druid_segment_file.proofs.BuildLemmas.{head_takes, columns_same, columns_fault, columns_too_long, text_judged}
use Rattle.druid_segment_file.proofs.cursor.Cursor.validate_columns.Goals as goal

pub columns_length-requires : goal.columns_length-requires
columns_length-requires c =
    let j = c.in_ok-judged.judged in
    let fits = subst IsBytes c.rest-bytes.ensures c.are_bytes.ensures in
    (head_takes c.args.self.now.short c.args.self.now.rest j.announcement j.fields j.count c.head.new.self.rest fits c.in_ok-judged.ensures.head).few

pub returns-in_err-len-clause-fault : goal.returns-in_err-len-clause-fault
returns-in_err-len-clause-fault c =
    let j = c.in_ok-judged.judged in
    let short = c.args.self.now.short in
    let mid = c.head.new.self in
    let p = err_from_is_err_and c.from_residual-in_err-len.result c.from_residual-in_err-len.ensures.1 in
    let failed = columns_same short mid.short c.shape_of-shape.result j.announcement j.fields j.count mid.rest _ c.in_ok-judged.ensures.short c.shape_of-shape.ensures c.in_err-len.ensures.found in
    rw (p.1, p.2) (columns_fault short c.in_err-len.field-0.0 c.args.self.now.rest j.announcement j.fields j.count mid.rest c.in_ok-judged.ensures.head failed)

pub overflow_sub-bytes : goal.overflow_sub-bytes
overflow_sub-bytes c =
    let j = c.in_ok-judged.judged in
    let fits = subst IsBytes c.rest-bytes.ensures c.are_bytes.ensures in
    let t = head_takes c.args.self.now.short c.args.self.now.rest j.announcement j.fields j.count c.head.new.self.rest fits c.in_ok-judged.ensures.head in
    omega (arith, t.len, ap length c.in_ok-judged.ensures.rows, ap length c.rest-bytes.ensures)

pub returns-then-bytes-judged-gt-MAX_TEXT-clause-fault : goal.returns-then-bytes-judged-gt-MAX_TEXT-clause-fault
returns-then-bytes-judged-gt-MAX_TEXT-clause-fault c =
    let j = c.in_ok-judged.judged in
    let short = c.args.self.now.short in
    let bytes = c.args.self.now.rest in
    let mid = c.head.new.self in
    let after = c.columns_length.new.self.rest in
    let head = c.in_ok-judged.ensures.head in
    let found = c.in_ok-len.ensures.found.0 in
    let fits = subst IsBytes c.rest-bytes.ensures c.are_bytes.ensures in
    let read = columns_same short mid.short c.shape_of-shape.result j.announcement j.fields j.count mid.rest _ c.in_ok-judged.ensures.short c.shape_of-shape.ensures found.1 in
    let text = text_judged short bytes j.announcement j.fields j.count mid.rest after found.0 c.in_ok-len.len fits head read found.2 in
    columns_too_long short bytes j.announcement j.fields j.count mid.rest after found.0 head read (omega (arith, text, (head_takes short bytes j.announcement j.fields j.count mid.rest fits head).len, ap length c.in_ok-judged.ensures.rows, ap length c.rest-bytes.ensures, c.if-bytes-judged-gt-MAX_TEXT.true))

pub returns-clause-whole : goal.returns-clause-whole
returns-clause-whole c =
    let j = c.in_ok-judged.judged in
    let short = c.args.self.now.short in
    let bytes = c.args.self.now.rest in
    let mid = c.head.new.self in
    let after = c.columns_length.new.self.rest in
    let head = c.in_ok-judged.ensures.head in
    let found = c.in_ok-len.ensures.found.0 in
    let fits = subst IsBytes c.rest-bytes.ensures c.are_bytes.ensures in
    let read = columns_same short mid.short c.shape_of-shape.result j.announcement j.fields j.count mid.rest _ c.in_ok-judged.ensures.short c.shape_of-shape.ensures found.1 in
    let text = text_judged short bytes j.announcement j.fields j.count mid.rest after found.0 c.in_ok-len.len fits head read found.2 in
    subst (λ (rest : List ℕ). IsWholeByColumns short bytes j.announcement j.fields j.count rest after) (sym c.in_ok-judged.ensures.rows)
    (record { head = head; columns = found.0; read = read; text = omega (arith, text, ap length c.in_ok-judged.ensures.rows, ap length c.rest-bytes.ensures, c.if-bytes-judged-gt-MAX_TEXT.false) })
