use Rattle.std.proofs.Common.{arith}
use Rattle.druid_partial_text.proofs.SpeltLemmas.{are_numbers}
use Rattle.druid_partial_text.proofs.whole_answer.are_counted.Goals as goal

pub returns : goal.returns
returns c = λ yes.
    are_numbers c.args.aggregations.now c.args.numbers.now c.requires (λ k a x below. c.loop-i.invariant k a x (omega (arith, below, c.loop-i-test.false)))
