use Rattle.std.proofs.Common.{◌≡◌, ◌∙◌, Ok, Err, None, subst, option_map}
use Rattle.druid_segment_file.specs.ColumnReader.{value_text_at, value_texts_at}
use Rattle.druid_segment_file.specs.Borrowed.{bytes_of}
use Rattle.druid_segment_file.proofs.LoopLemmas.{texts_go_on, texts_end, texts_done, not_read}
use Rattle.druid_segment_file.proofs.cursor.Cursor.value_texts.Goals as goal

pub unreachable-requires : goal.unreachable-requires
unreachable-requires c =
    let short = c.args.self.now.short in
    let last = option_map bytes_of c.loop.last in
    let total = value_texts_at short c.args.count None c.args.self.now.rest in
    let failed = subst (λ s. value_text_at s last c.loop.self.rest ≡ Err c.in-Err.field-0) c.loop.invariant.short c.in-Err.ensures in
    not_read total c.in-Err.field-0 c.requires (texts_end short c.in-Err.field-0 last c.loop.values c.args.count c.loop.counter c.loop.self.rest total c.loop-test.true failed c.loop.invariant.reading)

pub loop-preserved : goal.loop-preserved
loop-preserved c =
    let short = c.args.self.now.short in
    let last = option_map bytes_of c.loop.last in
    let text = c.in-Ok.text.now in
    let after = c.value_text.new.self in
    let total = value_texts_at short c.args.count None c.args.self.now.rest in
    let here = subst (λ s. value_text_at s last c.loop.self.rest ≡ Ok (text, after.rest)) c.loop.invariant.short c.in-Ok.ensures.0 in
    record {
      short = c.in-Ok.ensures.1 ∙ c.loop.invariant.short;
      reading = rw c.in_ok-push.ensures.ok (texts_go_on short last c.loop.values c.args.count c.loop.counter c.loop.self.rest text after.rest total c.loop-test.true here c.loop.invariant.reading);
    }

pub returns : goal.returns
returns c =
    let short = c.args.self.now.short in
    record {
      is = texts_done short (option_map bytes_of c.loop.last) c.loop.values c.args.count c.loop.counter c.loop.self.rest (value_texts_at short c.args.count None c.args.self.now.rest) c.loop-test.false c.loop.invariant.reading;
      short = c.loop.invariant.short;
    }
