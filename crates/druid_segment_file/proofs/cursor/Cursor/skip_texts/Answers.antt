use Rattle.std.proofs.Common.{◌≡◌, ◌≤◌, ◌++◌, ◌∷◌, ◌∙◌, [], Ok, Err, subst, sym, refl, arith, length, None, option_map}
use Rattle.std.proofs.lemmas.Result.{err_from_is_err_and}
use Rattle.std.proofs.lemmas.List.{length-set, take_all}
use Rattle.druid_segment_file.specs.ColumnReader.{value_text_at, value_texts_at}
use Rattle.druid_segment_file.specs.Borrowed.{bytes_of}
use Rattle.druid_segment_file.proofs.LoopLemmas.{no_texts, texts_go_on, texts_end, texts_done}
use Rattle.druid_segment_file.proofs.JudgeLemmas.{text_within, lens_push}
use Rattle.druid_segment_file.proofs.cursor.Cursor.skip_texts.Goals as goal

pub loop-place-init : goal.loop-place-init
loop-place-init c = record { front = []; len = refl; done = refl; short = refl; reading = no_texts c.args.self.now.short (length c.args.lens.now) c.args.self.now.rest }

pub returns-in_err-text-clause-found : goal.returns-in_err-text-clause-found
returns-in_err-text-clause-found c =
    let short = c.args.self.now.short in
    let last = option_map bytes_of c.loop-place.last in
    let count = length c.args.lens.now in
    let p = err_from_is_err_and c.from_residual.result c.from_residual.ensures.1 in
    let failed = subst (λ s. value_text_at s last c.loop-place.self.rest ≡ Err c.in_err-text.field-0.0) c.loop-place.invariant.short c.in_err-text.ensures in
    rw (p.1, p.2) (texts_end short c.in_err-text.field-0.0 last c.loop-place.invariant.front count c.loop-place.place c.loop-place.self.rest (value_texts_at short count None c.args.self.now.rest) (omega (arith, c.loop-place-test.true, c.loop-place.invariant.len)) failed c.loop-place.invariant.reading)

pub overflow_cast-lens : goal.overflow_cast-lens
overflow_cast-lens c =
    omega (arith, text_within c.loop-place.self.short (option_map bytes_of c.loop-place.last) c.loop-place.self.rest c.in_ok-text.text.now c.value_text.new.self.rest c.in_ok-text.ensures.0)

pub loop-place-preserved : goal.loop-place-preserved
loop-place-preserved c =
    let short = c.args.self.now.short in
    let last = option_map bytes_of c.loop-place.last in
    let count = length c.args.lens.now in
    let text = c.in_ok-text.text.now in
    let after = c.value_text.new.self in
    let place = c.loop-place.place in
    let lens = c.loop-place.lens in
    let read = subst (λ s. value_text_at s last c.loop-place.self.rest ≡ Ok (text, after.rest)) c.loop-place.invariant.short c.in_ok-text.ensures.0 in
    record {
      front = c.loop-place.invariant.front ++ text ∷ [];
      len = length-set lens place (length text) ∙ c.loop-place.invariant.len;
      done = lens_push lens place c.loop-place.invariant.front text (omega (arith, c.loop-place-test.true, c.loop-place.invariant.len)) c.loop-place.invariant.done;
      short = c.in_ok-text.ensures.1 ∙ c.loop-place.invariant.short;
      reading = texts_go_on short last c.loop-place.invariant.front count place c.loop-place.self.rest text after.rest (value_texts_at short count None c.args.self.now.rest) (omega (arith, c.loop-place-test.true, c.loop-place.invariant.len)) read c.loop-place.invariant.reading;
    }

pub returns-clause-found : goal.returns-clause-found
returns-clause-found c =
    let short = c.args.self.now.short in
    let count = length c.args.lens.now in
    let lens = c.loop-place.lens in
    let past : count ≤ c.loop-place.place = omega (arith, c.loop-place-test.false, c.loop-place.invariant.len) in
    let done = sym (take_all c.loop-place.place lens (omega (arith, past, c.loop-place.invariant.len))) ∙ c.loop-place.invariant.done in
    ((c.loop-place.invariant.front, texts_done short (option_map bytes_of c.loop-place.last) c.loop-place.invariant.front count c.loop-place.place c.loop-place.self.rest (value_texts_at short count None c.args.self.now.rest) past c.loop-place.invariant.reading, done), c.loop-place.invariant.short)
