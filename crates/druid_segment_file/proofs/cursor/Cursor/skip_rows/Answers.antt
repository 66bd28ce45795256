use Rattle.std.proofs.Common.{◌≡◌, ◌++◌, ◌∷◌, ◌∙◌, [], List, Ok, Err, subst, refl}
use Rattle.druid_segment_rows.specs.Rows.{Row, row_of}
use Rattle.druid_segment_file.specs.Parts.{each_at, values_at}
use Rattle.druid_segment_file.specs.Borrowed.{values_borrowed}
use Rattle.druid_segment_file.proofs.LoopLemmas.{with_none, goes_on, ends, is_done}
use Rattle.druid_segment_file.proofs.cursor.Cursor.skip_rows.Goals as goal

abbrev all : List Row → List Row
all values = values

pub loop-init : goal.loop-init
loop-init c = record { front = []; short = refl; reading = with_none (values_at c.args.self.now.short c.args.shape) c.args.count c.args.self.now.rest }

pub returns-in-Err : goal.returns-in-Err
returns-in-Err c =
    let short = c.args.self.now.short in
    let failed = subst (λ s. values_at s c.args.shape c.loop.self.rest ≡ Err c.in-Err.fault) c.loop.invariant.short c.in-Err.ensures in
    ends all (values_at short c.args.shape) c.in-Err.fault c.loop.invariant.front c.args.count c.loop.counter c.loop.self.rest (each_at (values_at short c.args.shape) c.args.count c.args.self.now.rest) c.loop-test.true failed c.loop.invariant.reading

pub loop-preserved : goal.loop-preserved
loop-preserved c =
    let short = c.args.self.now.short in
    let after = c.row.new.self in
    let values = c.row.new.values in
    let row : Row = row_of c.in_default.field-0 (values_borrowed values.texts.items) values.numbers.items in
    let read = subst (λ s. values_at s c.args.shape c.loop.self.rest ≡ Ok (row, after.rest)) c.loop.invariant.short c.in_default.ensures.0 in
    record {
      front = c.loop.invariant.front ++ row ∷ [];
      short = c.in_default.ensures.1 ∙ c.loop.invariant.short;
      reading = goes_on all (values_at short c.args.shape) c.loop.invariant.front c.args.count c.loop.counter c.loop.self.rest row after.rest (each_at (values_at short c.args.shape) c.args.count c.args.self.now.rest) c.loop-test.true read c.loop.invariant.reading;
    }

pub returns : goal.returns
returns c =
    let short = c.args.self.now.short in
    ((c.loop.invariant.front, is_done all (values_at short c.args.shape) c.loop.invariant.front c.args.count c.loop.counter c.loop.self.rest (each_at (values_at short c.args.shape) c.args.count c.args.self.now.rest) c.loop-test.false c.loop.invariant.reading), c.loop.invariant.short)
