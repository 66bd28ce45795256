use Rattle.std.proofs.Common.{◌≡◌, ◌++◌, ◌∷◌, ◌∙◌, [], List, ℕ, Ok, Err, subst, refl}
use Rattle.druid_segment_file.specs.Parts.{each_at, row_time_at}
use Rattle.druid_segment_file.proofs.LoopLemmas.{with_none, goes_on, ends, is_done}
use Rattle.druid_segment_file.proofs.cursor.Cursor.skip_times.Goals as goal

abbrev all : List ℕ → List ℕ
all times = times

pub loop-init : goal.loop-init
loop-init c = record { front = []; short = refl; reading = with_none (row_time_at c.args.self.now.short c.args.interval) c.args.rows c.args.self.now.rest }

pub returns-in-Err : goal.returns-in-Err
returns-in-Err c =
    let short = c.args.self.now.short in
    let failed = subst (λ s. row_time_at s c.args.interval c.loop.self.rest ≡ Err c.in-Err.fault) c.loop.invariant.short c.in-Err.ensures in
    ends all (row_time_at short c.args.interval) c.in-Err.fault c.loop.invariant.front c.args.rows c.loop.counter c.loop.self.rest (each_at (row_time_at short c.args.interval) c.args.rows c.args.self.now.rest) c.loop-test.true failed c.loop.invariant.reading

pub loop-preserved : goal.loop-preserved
loop-preserved c =
    let short = c.args.self.now.short in
    let after = c.row_time.new.self in
    let time = c.in_default.field-0 in
    let read = subst (λ s. row_time_at s c.args.interval c.loop.self.rest ≡ Ok (time, after.rest)) c.loop.invariant.short c.in_default.ensures.0 in
    record {
      front = c.loop.invariant.front ++ time ∷ [];
      short = c.in_default.ensures.1 ∙ c.loop.invariant.short;
      reading = goes_on all (row_time_at short c.args.interval) c.loop.invariant.front c.args.rows c.loop.counter c.loop.self.rest time after.rest (each_at (row_time_at short c.args.interval) c.args.rows c.args.self.now.rest) c.loop-test.true read c.loop.invariant.reading;
    }

pub returns : goal.returns
returns c =
    let short = c.args.self.now.short in
    ((c.loop.invariant.front, is_done all (row_time_at short c.args.interval) c.loop.invariant.front c.args.rows c.loop.counter c.loop.self.rest (each_at (row_time_at short c.args.interval) c.args.rows c.args.self.now.rest) c.loop-test.false c.loop.invariant.reading), c.loop.invariant.short)
