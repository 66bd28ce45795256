use Rattle.std.proofs.Common.{◌≡◌, ◌∙◌, length, sym}
use Rattle.std.proofs.lemmas.Result.{err_from_is_err_and}
use Rattle.std.proofs.lemmas.Bool.{false≢true}
use Rattle.druid_segment_file.proofs.JudgeLemmas.{coded_no_texts, coded_no_codes, coded_unused, coded_found, coded_length, codes_same}
use Rattle.druid_segment_file.proofs.cursor.Cursor.texts_length.Goals as goal

pub returns-in_err-skip_texts-clause-found : goal.returns-in_err-skip_texts-clause-found
returns-in_err-skip_texts-clause-found c =
    let p = err_from_is_err_and c.from_residual.result c.from_residual.ensures.1 in
    rw (p.1, p.2) (coded_no_texts c.args.self.now.short c.in_err-skip_texts.field-0.0 (length c.args.lens.now) c.args.rows c.args.self.now.rest c.in_err-skip_texts.ensures.found)

pub returns-in_err-len-clause-found : goal.returns-in_err-len-clause-found
returns-in_err-len-clause-found c =
    let short = c.args.self.now.short in
    let count = length c.args.lens.now in
    let mid = c.skip_texts.new.self in
    let texts = c.in_ok-skip_texts.ensures.found in
    let p = err_from_is_err_and c.from_residual-in_err-len.result c.from_residual-in_err-len.ensures.1 in
    let failed = codes_same mid.short short (length c.skip_texts.new.lens) count c.args.rows mid.rest _ texts.1 c.in_ok-skip_texts.ensures.len c.in_err-len.ensures.found in
    rw (p.1, p.2) (coded_no_codes short count c.args.rows c.args.self.now.rest mid.rest texts.0.0 texts.0.1 c.in_err-len.field-0.0 failed)

pub returns-then-not-are_all_marked-clause-found : goal.returns-then-not-are_all_marked-clause-found
returns-then-not-are_all_marked-clause-found c =
    let short = c.args.self.now.short in
    let count = length c.args.lens.now in
    let mid = c.skip_texts.new.self in
    let texts = c.in_ok-skip_texts.ensures.found in
    let codes = c.in_ok-len.ensures.found.0 in
    let coded = codes_same mid.short short (length c.skip_texts.new.lens) count c.args.rows mid.rest _ texts.1 c.in_ok-skip_texts.ensures.len codes.1 in
    let long : length c.codes_length.new.marks ≡ count = c.in_ok-len.ensures.len ∙ c.requires.len in
    coded_unused short count c.args.rows c.args.self.now.rest mid.rest texts.0.0 texts.0.1 codes.0 c.codes_length.new.self.rest c.skip_texts.new.lens c.codes_length.new.marks coded long codes.2.1 (λ all. absurd (false≢true (sym c.if-not-are_all_marked.true ∙ c.are_all_marked.ensures.1 all)))

pub returns-clause-found : goal.returns-clause-found
returns-clause-found c =
    let short = c.args.self.now.short in
    let count = length c.args.lens.now in
    let mid = c.skip_texts.new.self in
    let lens = c.skip_texts.new.lens in
    let texts = c.in_ok-skip_texts.ensures.found in
    let found = c.in_ok-len.ensures.found in
    let codes = found.0 in
    let after = c.codes_length.new.self in
    let coded = codes_same mid.short short (length lens) count c.args.rows mid.rest _ texts.1 c.in_ok-skip_texts.ensures.len codes.1 in
    let long : length c.codes_length.new.marks ≡ count = c.in_ok-len.ensures.len ∙ c.requires.len in
    let read = coded_found short count c.args.rows c.args.self.now.rest mid.rest texts.0.0 texts.0.1 codes.0 after.rest lens c.codes_length.new.marks coded long codes.2.1 (c.are_all_marked.ensures.0 c.if-not-are_all_marked.false) in
    let len = coded_length short count c.args.rows c.args.self.now.rest mid.rest texts.0.0 texts.0.1 codes.0 after.rest lens c.in_ok-len.len coded texts.0.2 c.in_ok-skip_texts.ensures.len codes.2.0 in
    ((record { texts = texts.0.0; codes = codes.0 }, read, len), found.1 ∙ texts.1)
