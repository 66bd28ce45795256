use Rattle.std.proofs.Common.{◌≡◌, ◌++◌, ◌∷◌, ◌∙◌, [], List, ℤ, Option, Ok, IsOk, subst, sym}
use Rattle.druid_segment_file.specs.Parts.{each_at}
use Rattle.druid_segment_file.specs.ColumnReader.{metric_at}
use Rattle.druid_segment_file.proofs.LoopLemmas.{goes_on, is_done, reads_next}
use Rattle.druid_segment_file.proofs.cursor.Cursor.metrics.Goals as goal

abbrev all : List (List (Option ℤ)) → List (List (Option ℤ))
all columns = columns

pub metric-requires-clause-judged : goal.metric-requires-clause-judged
metric-requires-clause-judged c =
    let short = c.args.self.now.short in
    let read = metric_at short c.args.rows in
    let next = reads_next all read c.loop.columns.items c.args.metrics c.loop.counter c.loop.self.rest (each_at read c.args.metrics c.args.self.now.rest) c.loop-test.true c.requires.judged c.loop.invariant.reading in
    subst (λ s. IsOk (metric_at s c.args.rows c.loop.self.rest)) (sym c.loop.invariant.short) next

pub loop-preserved : goal.loop-preserved
loop-preserved c =
    let short = c.args.self.now.short in
    let read = metric_at short c.args.rows in
    let after = c.metric.new.self in
    let made = c.in_ok-metric.ensures in
    let one = c.in_ok-metric.field-0 in
    let here = subst (λ s. metric_at s c.args.rows c.loop.self.rest ≡ Ok (one, after.rest)) c.loop.invariant.short made.is in
    let pushed : c.push.new.self.items ≡ c.loop.columns.items ++ one ∷ [] = c.in_ok-push.ensures.items in
    record {
      short = made.short ∙ c.loop.invariant.short;
      reading = rw pushed (goes_on all read c.loop.columns.items c.args.metrics c.loop.counter c.loop.self.rest one after.rest (each_at read c.args.metrics c.args.self.now.rest) c.loop-test.true here c.loop.invariant.reading);
    }

pub returns : goal.returns
returns c =
    let read = metric_at c.args.self.now.short c.args.rows in
    record {
      is = is_done all read c.loop.columns.items c.args.metrics c.loop.counter c.loop.self.rest (each_at read c.args.metrics c.args.self.now.rest) c.loop-test.false c.loop.invariant.reading;
      short = c.loop.invariant.short;
    }
