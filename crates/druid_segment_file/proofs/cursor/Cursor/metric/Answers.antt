use Rattle.std.proofs.Common.{◌≡◌, ◌++◌, ◌∷◌, ◌∙◌, [], List, Bool, Ok, Err, subst, sym, ap}
use Rattle.druid_segment_file.specs.Parts.{each_at}
use Rattle.druid_segment_file.specs.Reader.{Cursor}
use Rattle.druid_segment_file.specs.ColumnReader.{mark_at, present_at, metric_at}
use Rattle.druid_segment_file.specs.Builder.{present_value_at}
use Rattle.druid_segment_file.proofs.LoopLemmas.{with_front, nothing_before, not_read}
use Rattle.druid_segment_file.proofs.JudgeLemmas.{metric_unmarked}
use Rattle.druid_segment_file.proofs.KeepLemmas.{metric_marked, all_marks, next_mark, no_mark, marks_done, next_present, no_present, present_done}
use Rattle.druid_segment_file.proofs.cursor.Cursor.metric.Goals as goal

pub unreachable-requires : goal.unreachable-requires
unreachable-requires c =
    not_read (metric_at c.args.self.now.short c.args.rows c.args.self.now.rest) c.in-Err.field-0 c.requires.judged (metric_unmarked c.args.self.now.short c.in-Err.field-0 c.args.rows c.args.self.now.rest c.in-Err.ensures.found)

pub loop-init : goal.loop-init
loop-init c =
    let short = c.args.self.now.short in
    let rows = c.args.rows in
    let found = c.in_default.ensures.found in
    let marks = found.0.0 in
    let mid = c.count_marks.new.self.rest in
    let here = ap (λ (k : Cursor). each_at (mark_at short) rows k.rest) c.again-marks.ensures ∙ found.0.1 in
    record {
      left = marks;
      after = mid;
      marked = all_marks short rows c.again-marks.result.rest marks mid here;
      marks_short = ap (λ (k : Cursor). k.short) c.again-marks.ensures;
      short = found.1;
      reading = rw c.in_ok-numbers.ensures (nothing_before (present_at short marks mid) ∙ sym (metric_marked short rows c.args.self.now.rest marks mid found.0.1));
    }

pub unreachable-requires-in-Err-mark : goal.unreachable-requires-in-Err-mark
unreachable-requires-in-Err-mark c =
    let short = c.args.self.now.short in
    let l = c.loop.invariant in
    let failed = subst (λ s. mark_at s c.loop.marks.rest ≡ Err c.in-Err-mark.field-0) l.marks_short c.in-Err-mark.ensures in
    no_mark short c.in-Err-mark.field-0 c.args.rows c.loop.counter c.loop.marks.rest l.left l.after c.loop-test.true l.marked failed

pub unreachable-requires-in-Err-present : goal.unreachable-requires-in-Err-present
unreachable-requires-in-Err-present c =
    let short = c.args.self.now.short in
    let rows = c.args.rows in
    let l = c.loop.invariant in
    let mark = c.in-Ok.mark in
    let items = c.loop.numbers in
    let marked = subst (λ s. mark_at s c.loop.marks.rest ≡ Ok (mark, c.mark.new.self.rest)) l.marks_short c.in-Ok.ensures.0 in
    let next = next_mark short rows c.loop.counter c.loop.marks.rest l.left l.after mark c.mark.new.self.rest c.loop-test.true l.marked marked in
    let failed = subst (λ s. present_value_at s mark c.loop.self.rest ≡ Err c.in-Err-present.field-0) l.short c.in-Err-present.ensures in
    let whole = sym l.reading ∙ ap (λ (ms : List Bool). with_front items (present_at short ms c.loop.self.rest)) next.1 ∙ no_present short c.in-Err-present.field-0 mark next.0 items c.loop.self.rest failed in
    not_read (metric_at short rows c.args.self.now.rest) c.in-Err-present.field-0 c.requires.judged whole

pub loop-preserved : goal.loop-preserved
loop-preserved c =
    let short = c.args.self.now.short in
    let rows = c.args.rows in
    let l = c.loop.invariant in
    let mark = c.in-Ok.mark in
    let items = c.loop.numbers in
    let number = c.in-Ok-present.number in
    let after = c.present.new.self in
    let marked = subst (λ s. mark_at s c.loop.marks.rest ≡ Ok (mark, c.mark.new.self.rest)) l.marks_short c.in-Ok.ensures.0 in
    let next = next_mark short rows c.loop.counter c.loop.marks.rest l.left l.after mark c.mark.new.self.rest c.loop-test.true l.marked marked in
    let read = subst (λ s. present_value_at s mark c.loop.self.rest ≡ Ok (number, after.rest)) l.short c.in-Ok-present.ensures.0 in
    let on = sym (next_present short mark next.0 items c.loop.self.rest number after.rest read) ∙ ap (λ (ms : List Bool). with_front items (present_at short ms c.loop.self.rest)) (sym next.1) ∙ l.reading in
    let pushed : c.push.new.self ≡ items ++ number ∷ [] = c.in_ok-push.ensures.ok in
    record {
      left = next.0;
      after = l.after;
      marked = next.2;
      marks_short = c.in-Ok.ensures.1 ∙ l.marks_short;
      short = c.in-Ok-present.ensures.1 ∙ l.short;
      reading = rw pushed on;
    }

pub returns : goal.returns
returns c =
    let short = c.args.self.now.short in
    let l = c.loop.invariant in
    let items = c.loop.numbers in
    let none = marks_done short c.args.rows c.loop.counter c.loop.marks.rest l.left l.after c.loop-test.false l.marked in
    let whole = sym l.reading ∙ ap (λ (ms : List Bool). with_front items (present_at short ms c.loop.self.rest)) none ∙ present_done short items c.loop.self.rest in
    record {
      is = whole;
      short = l.short;
    }
