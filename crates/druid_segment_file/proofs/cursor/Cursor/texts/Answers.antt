use Rattle.std.proofs.Common.{◌≡◌, ◌++◌, ◌∷◌, ◌∙◌, [], List, ℕ, Option, Ok, Err, option_map, subst, arith}
use Rattle.std.proofs.lemmas.Result.{err_from_is_err_and}
use Rattle.std.proofs.lemmas.List.{map_push}
use Rattle.druid_segment_file.specs.Parts.{each_at, text_value_at}
use Rattle.druid_segment_file.specs.Borrowed.{bytes_of, values_borrowed}
use Rattle.druid_segment_file.proofs.LoopLemmas.{goes_on, ends, is_done}
use Rattle.druid_segment_file.proofs.cursor.Cursor.texts.Goals as goal

abbrev all : List (Option (List ℕ)) → List (Option (List ℕ))
all values = values

pub returns-in_err-value : goal.returns-in_err-value
returns-in_err-value c =
    let short = c.args.self.now.short in
    let p = err_from_is_err_and c.from_residual.result c.from_residual.ensures.1 in
    let failed = subst (λ s. text_value_at s c.loop.self.rest ≡ Err c.in_err-value.field-0.0) c.loop.invariant.short c.in_err-value.ensures in
    rw (p.1, p.2) (ends all (text_value_at short) c.in_err-value.field-0.0 (values_borrowed c.loop.texts.items) c.args.count c.loop.counter c.loop.self.rest (each_at (text_value_at short) c.args.count c.args.self.now.rest) c.loop-test.true failed c.loop.invariant.reading)

pub loop-preserved : goal.loop-preserved
loop-preserved c =
    let short = c.args.self.now.short in
    let value = c.in_ok-value.value in
    let after = c.text_value.new.self in
    let pushed : values_borrowed c.push.new.self.items ≡ values_borrowed c.loop.texts.items ++ option_map bytes_of value ∷ [] = rw c.push.ensures.items (map_push (option_map bytes_of) c.loop.texts.items value) in
    let read = subst (λ s. text_value_at s c.loop.self.rest ≡ Ok (option_map bytes_of value, after.rest)) c.loop.invariant.short c.in_ok-value.ensures.0 in
    record {
      few = omega (arith, c.push.ensures.len, c.loop.invariant.few);
      short = c.in_ok-value.ensures.1 ∙ c.loop.invariant.short;
      reading = rw pushed (goes_on all (text_value_at short) (values_borrowed c.loop.texts.items) c.args.count c.loop.counter c.loop.self.rest (option_map bytes_of value) after.rest (each_at (text_value_at short) c.args.count c.args.self.now.rest) c.loop-test.true read c.loop.invariant.reading);
    }

pub returns : goal.returns
returns c =
    let short = c.args.self.now.short in
    (is_done all (text_value_at short) (values_borrowed c.loop.texts.items) c.args.count c.loop.counter c.loop.self.rest (each_at (text_value_at short) c.args.count c.args.self.now.rest) c.loop-test.false c.loop.invariant.reading, c.loop.invariant.short)
