use Rattle.std.proofs.Common.{◌≡◌, ◌++◌, ◌∷◌, ◌∙◌, [], List, ℕ, Ok, Err, subst}
use Rattle.druid_segment_file.specs.Parts.{each_at, row_time_at}
use Rattle.druid_segment_file.proofs.LoopLemmas.{goes_on, ends, is_done, not_read}
use Rattle.druid_segment_file.proofs.cursor.Cursor.times.Goals as goal

abbrev all : List ℕ → List ℕ
all items = items

pub unreachable-requires : goal.unreachable-requires
unreachable-requires c =
    let short = c.args.self.now.short in
    let read = row_time_at short c.args.interval in
    let failed = subst (λ s. row_time_at s c.args.interval c.loop.self.rest ≡ Err c.in-Err.field-0) c.loop.invariant.short c.in-Err.ensures in
    not_read (each_at read c.args.rows c.args.self.now.rest) c.in-Err.field-0 c.requires (ends all read c.in-Err.field-0 c.loop.times.items c.args.rows c.loop.counter c.loop.self.rest (each_at read c.args.rows c.args.self.now.rest) c.loop-test.true failed c.loop.invariant.reading)

pub loop-preserved : goal.loop-preserved
loop-preserved c =
    let short = c.args.self.now.short in
    let read = row_time_at short c.args.interval in
    let item = c.in-Ok.time in
    let after = c.row_time.new.self in
    let here = subst (λ s. row_time_at s c.args.interval c.loop.self.rest ≡ Ok (item, after.rest)) c.loop.invariant.short c.in-Ok.ensures.0 in
    let pushed : c.push.new.self.items ≡ c.loop.times.items ++ item ∷ [] = c.in_ok-push.ensures.items in
    record {
      short = c.in-Ok.ensures.1 ∙ c.loop.invariant.short;
      reading = rw pushed (goes_on all read c.loop.times.items c.args.rows c.loop.counter c.loop.self.rest item after.rest (each_at read c.args.rows c.args.self.now.rest) c.loop-test.true here c.loop.invariant.reading);
    }

pub returns : goal.returns
returns c =
    let read = row_time_at c.args.self.now.short c.args.interval in
    record {
      is = is_done all read c.loop.times.items c.args.rows c.loop.counter c.loop.self.rest (each_at read c.args.rows c.args.self.now.rest) c.loop-test.false c.loop.invariant.reading;
      short = c.loop.invariant.short;
    }
