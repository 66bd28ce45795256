use Rattle.std.proofs.Common.{◌≡◌, ◌++◌, ◌∷◌, ◌∙◌, [], List, ℕ, Ok, Err, subst}
use Rattle.druid_segment_file.specs.Parts.{each_at}
use Rattle.druid_segment_file.specs.ColumnReader.{code_at}
use Rattle.druid_segment_file.proofs.LoopLemmas.{goes_on, ends, is_done, not_read}
use Rattle.druid_segment_file.proofs.cursor.Cursor.codes.Goals as goal

abbrev all : List ℕ → List ℕ
all items = items

pub unreachable-requires : goal.unreachable-requires
unreachable-requires c =
    let short = c.args.self.now.short in
    let read = code_at short c.args.count in
    let failed = subst (λ s. code_at s c.args.count c.loop.self.rest ≡ Err c.in-Err.field-0) c.loop.invariant.short c.in-Err.ensures in
    not_read (each_at read c.args.rows c.args.self.now.rest) c.in-Err.field-0 c.requires (ends all read c.in-Err.field-0 c.loop.codes.items c.args.rows c.loop.counter c.loop.self.rest (each_at read c.args.rows c.args.self.now.rest) c.loop-test.true failed c.loop.invariant.reading)

pub loop-preserved : goal.loop-preserved
loop-preserved c =
    let short = c.args.self.now.short in
    let read = code_at short c.args.count in
    let item = c.in-Ok.code in
    let after = c.code.new.self in
    let here = subst (λ s. code_at s c.args.count c.loop.self.rest ≡ Ok (item, after.rest)) c.loop.invariant.short c.in-Ok.ensures.0 in
    let pushed : c.push.new.self.items ≡ c.loop.codes.items ++ item ∷ [] = c.in_ok-push.ensures.items in
    record {
      short = c.in-Ok.ensures.1 ∙ c.loop.invariant.short;
      reading = rw pushed (goes_on all read c.loop.codes.items c.args.rows c.loop.counter c.loop.self.rest item after.rest (each_at read c.args.rows c.args.self.now.rest) c.loop-test.true here c.loop.invariant.reading);
    }

pub returns : goal.returns
returns c =
    let read = code_at c.args.self.now.short c.args.count in
    record {
      is = is_done all read c.loop.codes.items c.args.rows c.loop.counter c.loop.self.rest (each_at read c.args.rows c.args.self.now.rest) c.loop-test.false c.loop.invariant.reading;
      short = c.loop.invariant.short;
    }
