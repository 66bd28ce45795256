use Rattle.std.proofs.Common.{arith, sym, ◌∙◌}
use Rattle.druid_base.proofs.OrderLemmas.{texts_differ, texts_same}
use Rattle.druid_base.proofs.NumberLemmas.{number_at-found, number_at-odd}
use Rattle.druid_base.proofs.number.number_in.Goals as goal

pub returns-then-ne : goal.returns-then-ne
returns-then-ne c =
    let other = texts_differ c.format.result.now c.args.digits.now c.ne.result c.ne.ensures c.if-ne.true in
    sym (number_at-odd c.args.digits.now c.in-Ok.number c.in-Ok.ensures.value.0.1 (λ e. other (c.format.ensures.text ∙ e)))

pub returns : goal.returns
returns c =
    let same = texts_same c.format.result.now c.args.digits.now c.ne.result c.ne.ensures c.if-ne.false in
    sym (number_at-found c.args.digits.now c.in-Ok.number (omega (arith, c.in-Ok.ensures.value.0.1, c.in-Ok.ensures.value.0.0.1)) (sym c.format.ensures.text ∙ same))
