use Rattle.std.proofs.Common.{◌≡◌, ◌++◌, ◌∷◌, ◌∙◌, [], List, ℕ, Ok, Err, subst, sym, ap, refl, arith, length}
use Rattle.std.proofs.lemmas.Result.{err_from_is_err_and}
use Rattle.druid_segment_rows.proofs.PlaceLemmas.{length_with_mark}
use Rattle.druid_segment_file.specs.Parts.{each_at}
use Rattle.druid_segment_file.specs.ColumnReader.{code_at}
use Rattle.druid_segment_file.specs.FileRules.{code_length, AreMarked}
use Rattle.druid_segment_file.proofs.LoopLemmas.{with_none, goes_on, ends, is_done}
use Rattle.druid_segment_file.proofs.JudgeLemmas.{code_within, none_marked, marked_push, sum_push}
use Rattle.druid_segment_file.proofs.cursor.Cursor.codes_length.Goals as goal

abbrev all : List ℕ → List ℕ
all codes = codes

pub loop-init : goal.loop-init
loop-init c = record { front = []; marked = none_marked c.args.marks.now c.requires.none; long = c.requires.len; len = refl; bound = omega arith; short = refl; reading = with_none (code_at c.args.self.now.short (length c.args.lens.now)) c.args.rows c.args.self.now.rest }

pub returns-in_err-code-clause-found : goal.returns-in_err-code-clause-found
returns-in_err-code-clause-found c =
    let short = c.args.self.now.short in
    let count = length c.args.lens.now in
    let p = err_from_is_err_and c.from_residual.result c.from_residual.ensures.1 in
    let failed = subst (λ s. code_at s count c.loop.self.rest ≡ Err c.in_err-code.field-0.0) c.loop.invariant.short c.in_err-code.ensures in
    rw (p.1, p.2) (ends all (code_at short count) c.in_err-code.field-0.0 c.loop.invariant.front c.args.rows c.loop.counter c.loop.self.rest (each_at (code_at short count) c.args.rows c.args.self.now.rest) c.loop-test.true failed c.loop.invariant.reading)

pub mark_text-requires : goal.mark_text-requires
mark_text-requires c =
    omega (arith, c.loop.invariant.long, code_within c.loop.self.short (length c.args.lens.now) c.loop.self.rest c.in_ok-code.code c.code.new.self.rest c.in_ok-code.ensures.0)

pub code_length-len-requires : goal.code_length-len-requires
code_length-len-requires c = code_within c.loop.self.short (length c.args.lens.now) c.loop.self.rest c.in_ok-code.code c.code.new.self.rest c.in_ok-code.ensures.0

pub overflow_add-len : goal.overflow_add-len
overflow_add-len c = omega (arith, c.loop.invariant.bound, c.code_length-len.ensures.bound, c.loop-test.true, c.requires.rows)

pub loop-preserved : goal.loop-preserved
loop-preserved c =
    let short = c.args.self.now.short in
    let lens = c.args.lens.now in
    let count = length lens in
    let code = c.in_ok-code.code in
    let after = c.code.new.self in
    let front = c.loop.invariant.front in
    let read = subst (λ s. code_at s count c.loop.self.rest ≡ Ok (code, after.rest)) c.loop.invariant.short c.in_ok-code.ensures.0 in
    record {
      front = front ++ code ∷ [];
      marked = subst (λ (marks : List ℕ). AreMarked (front ++ code ∷ []) marks) (sym c.mark_text.ensures) (marked_push front c.loop.marks code c.loop.invariant.marked);
      long = ap length c.mark_text.ensures ∙ length_with_mark c.loop.marks code ∙ c.loop.invariant.long;
      len = omega (arith, c.loop.invariant.len, c.code_length-len.ensures.value, sum_push (code_length lens) front code);
      bound = omega (arith, c.loop.invariant.bound, c.code_length-len.ensures.bound);
      short = c.in_ok-code.ensures.1 ∙ c.loop.invariant.short;
      reading = goes_on all (code_at short count) front c.args.rows c.loop.counter c.loop.self.rest code after.rest (each_at (code_at short count) c.args.rows c.args.self.now.rest) c.loop-test.true read c.loop.invariant.reading;
    }

pub returns-clause-found : goal.returns-clause-found
returns-clause-found c =
    let short = c.args.self.now.short in
    let count = length c.args.lens.now in
    ((c.loop.invariant.front, is_done all (code_at short count) c.loop.invariant.front c.args.rows c.loop.counter c.loop.self.rest (each_at (code_at short count) c.args.rows c.args.self.now.rest) c.loop-test.false c.loop.invariant.reading, (c.loop.invariant.len, c.loop.invariant.marked)), c.loop.invariant.short)

pub returns-clause-bound : goal.returns-clause-bound
returns-clause-bound c = omega (arith, c.loop.invariant.bound, c.loop.auto.counter-end, c.requires.rows)
