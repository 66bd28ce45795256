use Rattle.std.proofs.Common.{◌≡◌, ◌++◌, ◌∷◌, ◌∙◌, [], List, ℕ, Ok, Err, subst, arith}
use Rattle.std.specs.Borrow.{Bor}
use Rattle.std.proofs.lemmas.Result.{err_from_is_err_and}
use Rattle.std.proofs.lemmas.List.{map_push}
use Rattle.druid_segment_file.specs.Parts.{field_name_at, field_names_at}
use Rattle.druid_segment_file.specs.Borrowed.{bytes_of, texts_borrowed}
use Rattle.druid_segment_file.proofs.LoopLemmas.{names_go_on, names_end, names_done}
use Rattle.druid_segment_file.proofs.cursor.Cursor.field_names.Goals as goal

pub returns-in_err-name : goal.returns-in_err-name
returns-in_err-name c =
    let short = c.args.self.now.short in
    let others = texts_borrowed c.args.others.now in
    let p = err_from_is_err_and c.from_residual.result c.from_residual.ensures.1 in
    let seen = subst (λ (ns : List (Bor (List ℕ))). field_name_at c.loop.self.short (others ++ texts_borrowed ns) c.loop.self.rest ≡ Err c.in_err-name.field-0.0) c.as_slice.ensures.value c.in_err-name.ensures in
    let failed = subst (λ s. field_name_at s (others ++ texts_borrowed c.loop.names.items) c.loop.self.rest ≡ Err c.in_err-name.field-0.0) c.loop.invariant.short seen in
    rw (p.1, p.2) (names_end short c.in_err-name.field-0.0 others (texts_borrowed c.loop.names.items) c.args.count c.loop.counter c.loop.self.rest (field_names_at short c.args.count others c.args.self.now.rest) c.loop-test.true failed c.loop.invariant.reading)

pub loop-preserved : goal.loop-preserved
loop-preserved c =
    let short = c.args.self.now.short in
    let others = texts_borrowed c.args.others.now in
    let name = bytes_of c.in_ok-name.name in
    let after = c.field_name.new.self in
    let pushed : texts_borrowed c.push.new.self.items ≡ texts_borrowed c.loop.names.items ++ name ∷ [] = rw c.push.ensures.items (map_push bytes_of c.loop.names.items c.in_ok-name.name) in
    let seen = subst (λ (ns : List (Bor (List ℕ))). field_name_at c.loop.self.short (others ++ texts_borrowed ns) c.loop.self.rest ≡ Ok (name, after.rest)) c.as_slice.ensures.value c.in_ok-name.ensures.0 in
    let read = subst (λ s. field_name_at s (others ++ texts_borrowed c.loop.names.items) c.loop.self.rest ≡ Ok (name, after.rest)) c.loop.invariant.short seen in
    record {
      few = omega (arith, c.push.ensures.len, c.loop.invariant.few);
      short = c.in_ok-name.ensures.1 ∙ c.loop.invariant.short;
      reading = rw pushed (names_go_on short others (texts_borrowed c.loop.names.items) c.args.count c.loop.counter c.loop.self.rest name after.rest (field_names_at short c.args.count others c.args.self.now.rest) c.loop-test.true read c.loop.invariant.reading);
    }

pub returns : goal.returns
returns c =
    let short = c.args.self.now.short in
    let others = texts_borrowed c.args.others.now in
    (names_done short others (texts_borrowed c.loop.names.items) c.args.count c.loop.counter c.loop.self.rest (field_names_at short c.args.count others c.args.self.now.rest) c.loop-test.false c.loop.invariant.reading, c.loop.invariant.short)
