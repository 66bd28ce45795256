use Rattle.std.proofs.Common.{◌≡◌, ◌++◌, ◌∷◌, ◌∙◌, [], List, Ok, Err, subst, refl, arith}
use Rattle.std.proofs.lemmas.Result.{err_from_is_err_and}
use Rattle.druid_segment_file.specs.ColumnBytes.{Coded}
use Rattle.druid_segment_file.specs.Parts.{each_at}
use Rattle.druid_segment_file.specs.ColumnReader.{dimension_at, decoded}
use Rattle.druid_segment_file.specs.FileRules.{texts_length}
use Rattle.druid_segment_file.proofs.LoopLemmas.{with_none, goes_on, ends, is_done}
use Rattle.druid_segment_file.proofs.JudgeLemmas.{sum_push}
use Rattle.druid_segment_file.proofs.cursor.Cursor.dimensions_length.Goals as goal

abbrev all : List Coded → List Coded
all columns = columns

pub loop-init : goal.loop-init
loop-init c = record { front = []; len = refl; bound = omega arith; short = refl; reading = with_none (dimension_at c.args.self.now.short c.args.rows) c.args.dimensions c.args.self.now.rest }

pub returns-in_err-len-clause-found : goal.returns-in_err-len-clause-found
returns-in_err-len-clause-found c =
    let short = c.args.self.now.short in
    let read = dimension_at short c.args.rows in
    let p = err_from_is_err_and c.from_residual.result c.from_residual.ensures.1 in
    let failed = subst (λ s. dimension_at s c.args.rows c.loop.self.rest ≡ Err c.in_err-len.field-0.0) c.loop.invariant.short c.in_err-len.ensures.found in
    rw (p.1, p.2) (ends all read c.in_err-len.field-0.0 c.loop.invariant.front c.args.dimensions c.loop.counter c.loop.self.rest (each_at read c.args.dimensions c.args.self.now.rest) c.loop-test.true failed c.loop.invariant.reading)

pub overflow_add-len : goal.overflow_add-len
overflow_add-len c = omega (arith, c.loop.invariant.bound, c.in_ok-len.ensures.bound, c.loop-test.true, c.requires.dimensions)

pub loop-preserved : goal.loop-preserved
loop-preserved c =
    let short = c.args.self.now.short in
    let read = dimension_at short c.args.rows in
    let after = c.dimension_length.new.self in
    let front = c.loop.invariant.front in
    let found = c.in_ok-len.ensures.found.0 in
    let one = found.0 in
    let here = subst (λ s. dimension_at s c.args.rows c.loop.self.rest ≡ Ok (one, after.rest)) c.loop.invariant.short found.1 in
    record {
      front = front ++ one ∷ [];
      len = omega (arith, c.loop.invariant.len, found.2, sum_push (λ coded. texts_length (decoded coded)) front one);
      bound = omega (arith, c.loop.invariant.bound, c.in_ok-len.ensures.bound);
      short = c.in_ok-len.ensures.found.1 ∙ c.loop.invariant.short;
      reading = goes_on all read front c.args.dimensions c.loop.counter c.loop.self.rest one after.rest (each_at read c.args.dimensions c.args.self.now.rest) c.loop-test.true here c.loop.invariant.reading;
    }

pub returns-clause-found : goal.returns-clause-found
returns-clause-found c =
    let read = dimension_at c.args.self.now.short c.args.rows in
    ((c.loop.invariant.front, is_done all read c.loop.invariant.front c.args.dimensions c.loop.counter c.loop.self.rest (each_at read c.args.dimensions c.args.self.now.rest) c.loop-test.false c.loop.invariant.reading, c.loop.invariant.len), c.loop.invariant.short)

pub returns-clause-bound : goal.returns-clause-bound
returns-clause-bound c = omega (arith, c.loop.invariant.bound, c.loop.auto.counter-end, c.requires.dimensions)
