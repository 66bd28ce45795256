use Rattle.std.proofs.Common.{◌∙◌, sym, ap, subst, arith}
use Rattle.std.proofs.lemmas.Result.{err_from_is_err_and}
use Rattle.druid_segment_file.specs.Reader.{Cursor}
use Rattle.druid_segment_file.specs.Builder.{IsBuilt}
use Rattle.druid_segment_file.proofs.SegmentLemmas.{judged_err, judged_ok, judged_trails, judged_passes, may_lack_memory, is_file}
use Rattle.druid_segment_file.proofs.BuildLemmas.{content_found, content_built, room_at_cursor}
use Rattle.druid_segment_file.proofs.reader.segment_of.Goals as goal

pub returns-in_err-judged-clause-exact : goal.returns-in_err-judged-clause-exact
returns-in_err-judged-clause-exact c =
    let p = err_from_is_err_and c.from_residual.result c.from_residual.ensures.1 in
    rw (p.1, p.2) (judged_err 16777216 c.min.result c.args.bytes.now c.short_of-short.result c.in_err-judged.field-0.0 c.new-cursor.result c.short_of-short.ensures c.min.ensures c.new-cursor.ensures c.in_err-judged.ensures.fault)

pub returns-then-not-is_at_end-clause-exact : goal.returns-then-not-is_at_end-clause-exact
returns-then-not-is_at_end-clause-exact c =
    let j = c.in_ok-judged.judged in
    let after = c.validate.new.self.rest in
    let read = content_found c.new-cursor.result.short c.new-cursor.result.rest j.layout j.announcement j.fields j.count j.rows.now after c.in_ok-judged.ensures.whole in
    judged_trails 16777216 c.min.result c.args.bytes.now c.short_of-short.result c.new-cursor.result read.0 after c.short_of-short.ensures c.min.ensures c.new-cursor.ensures read.1 (sym c.is_at_end.ensures ∙ c.if-not-is_at_end.true)

pub returns-then-bytes-gt-MAX_TEXT-clause-exact : goal.returns-then-bytes-gt-MAX_TEXT-clause-exact
returns-then-bytes-gt-MAX_TEXT-clause-exact c =
    let j = c.in_ok-judged.judged in
    let after = c.validate.new.self.rest in
    let read = content_found c.new-cursor.result.short c.new-cursor.result.rest j.layout j.announcement j.fields j.count j.rows.now after c.in_ok-judged.ensures.whole in
    judged_passes 16777216 c.min.result c.args.bytes.now c.short_of-short.result c.new-cursor.result read.0 after c.short_of-short.ensures c.min.ensures c.new-cursor.ensures read.1 c.if-bytes-gt-MAX_TEXT.true

pub segment-requires : goal.segment-requires
segment-requires c =
    let j = c.in_ok-judged.judged in
    room_at_cursor c.min.result c.args.bytes.now c.short_of-short.result c.new-cursor.result j.layout j.announcement j.fields j.count j.rows.now c.validate.new.self.rest (omega (arith, c.min.ensures)) (λ i. omega (arith, c.type_inv.bytes i)) c.new-cursor.ensures c.in_ok-judged.ensures.whole

pub returns-in_err-segment-clause-exact : goal.returns-in_err-segment-clause-exact
returns-in_err-segment-clause-exact c =
    let j = c.in_ok-judged.judged in
    let after = c.validate.new.self.rest in
    let read = content_found c.new-cursor.result.short c.new-cursor.result.rest j.layout j.announcement j.fields j.count j.rows.now after c.in_ok-judged.ensures.whole in
    let nothing = sym c.is_at_end.ensures ∙ c.if-not-is_at_end.false in
    let found = judged_ok 16777216 c.min.result c.args.bytes.now c.short_of-short.result c.new-cursor.result read.0 after c.short_of-short.ensures c.min.ensures c.new-cursor.ensures read.1 nothing c.if-bytes-gt-MAX_TEXT.false in
    let p = err_from_is_err_and c.from_residual-in_err-segment.result c.from_residual-in_err-segment.ensures.1 in
    rw p.1 (may_lack_memory _ _ _ found p.2)

found_is : goal.returns-clause-exact
found_is c =
    let j = c.in_ok-judged.judged in
    let after = c.validate.new.self.rest in
    let s = c.in_ok-segment.field-0 in
    let short = ap (λ (k : Cursor). k.short) c.new-cursor.ensures in
    let built = subst (λ f. IsBuilt j.layout f j.announcement j.fields j.count j.rows.now s) (sym short) c.in_ok-segment.ensures in
    let read = content_built c.new-cursor.result.short c.new-cursor.result.rest j.layout j.announcement j.fields j.count j.rows.now after s c.in_ok-judged.ensures.whole built in
    let nothing = sym c.is_at_end.ensures ∙ c.if-not-is_at_end.false in
    judged_ok 16777216 c.min.result c.args.bytes.now c.short_of-short.result c.new-cursor.result s after c.short_of-short.ensures c.min.ensures c.new-cursor.ensures read nothing c.if-bytes-gt-MAX_TEXT.false

pub returns-clause-found : goal.returns-clause-found
returns-clause-found c = is_file c.args.bytes.now c.in_ok-segment.field-0 (λ i. omega (arith, c.type_inv.bytes i)) (found_is c)

pub returns-clause-exact : goal.returns-clause-exact
returns-clause-exact c = found_is c
