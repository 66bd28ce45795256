use Rattle.std.proofs.Common.{◌≡◌, ◌++◌, ◌∷◌, ◌∙◌, ◌+◌, ◌≤◌, [], List, Bool, Ok, Err, subst, refl, arith}
use Rattle.std.proofs.lemmas.Result.{err_from_is_err_and}
use Rattle.druid_segment_file.specs.Parts.{each_at}
use Rattle.druid_segment_file.specs.ColumnReader.{mark_at}
use Rattle.druid_segment_file.specs.FileRules.{ones}
use Rattle.druid_segment_file.proofs.LoopLemmas.{with_none, goes_on, ends, is_done}
use Rattle.druid_segment_file.proofs.JudgeLemmas.{ones_same, ones_more}
use Rattle.druid_segment_file.proofs.cursor.Cursor.count_marks.Goals.{then-branch, else-branch}
use Rattle.druid_segment_file.proofs.cursor.Cursor.count_marks.Goals as goal

abbrev all : List Bool → List Bool
all marks = marks

pub loop-init : goal.loop-init
loop-init c = record { front = []; count = refl; few = omega arith; short = refl; reading = with_none (mark_at c.args.self.now.short) c.args.rows c.args.self.now.rest }

pub returns-in_err-mark-clause-found : goal.returns-in_err-mark-clause-found
returns-in_err-mark-clause-found c =
    let short = c.args.self.now.short in
    let p = err_from_is_err_and c.from_residual.result c.from_residual.ensures.1 in
    let failed = subst (λ s. mark_at s c.loop.self.rest ≡ Err c.in_err-mark.field-0.0) c.loop.invariant.short c.in_err-mark.ensures in
    rw (p.1, p.2) (ends all (mark_at short) c.in_err-mark.field-0.0 c.loop.invariant.front c.args.rows c.loop.counter c.loop.self.rest (each_at (mark_at short) c.args.rows c.args.self.now.rest) c.loop-test.true failed c.loop.invariant.reading)

pub overflow_add-count : goal.overflow_add-count
overflow_add-count c = omega (arith, c.loop.invariant.few, c.loop-test.true, c.requires)

pub loop-preserved : goal.loop-preserved
loop-preserved c =
    let short = c.args.self.now.short in
    let mark = c.in_ok-mark.field-0 in
    let after = c.mark.new.self in
    let front = c.loop.invariant.front in
    let read = subst (λ s. mark_at s c.loop.self.rest ≡ Ok (mark, after.rest)) c.loop.invariant.short c.in_ok-mark.ensures.0 in
    let counted : (c.if-branch.count ≡ ones (front ++ mark ∷ [])) × (c.if-branch.count ≤ c.loop.counter + 1) = elim c.if-branch.branch [
      | then-branch w ↦ (w.count-is ∙ ones_more front mark c.loop.count w.if-branch.true c.loop.invariant.count, omega (arith, w.count-is, c.loop.invariant.few))
      | else-branch w ↦ (w.count-is ∙ ones_same front mark c.loop.count w.if-branch.false c.loop.invariant.count, omega (arith, w.count-is, c.loop.invariant.few))
    ] in
    record {
      front = front ++ mark ∷ [];
      count = counted.0;
      few = counted.1;
      short = c.in_ok-mark.ensures.1 ∙ c.loop.invariant.short;
      reading = goes_on all (mark_at short) front c.args.rows c.loop.counter c.loop.self.rest mark after.rest (each_at (mark_at short) c.args.rows c.args.self.now.rest) c.loop-test.true read c.loop.invariant.reading;
    }

pub returns-clause-found : goal.returns-clause-found
returns-clause-found c =
    let short = c.args.self.now.short in
    ((c.loop.invariant.front, is_done all (mark_at short) c.loop.invariant.front c.args.rows c.loop.counter c.loop.self.rest (each_at (mark_at short) c.args.rows c.args.self.now.rest) c.loop-test.false c.loop.invariant.reading, c.loop.invariant.count), c.loop.invariant.short)

pub returns-clause-bound : goal.returns-clause-bound
returns-clause-bound c = omega (arith, c.loop.invariant.few, c.loop.auto.counter-end)
