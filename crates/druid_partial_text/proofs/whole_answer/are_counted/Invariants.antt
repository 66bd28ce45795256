use Rattle.druid_partial_text.proofs.SpeltLemmas.{AreCounted}
use Rattle.druid_partial_text.proofs.whole_answer.are_counted.Given as goal

abbrev pub invariant-loop-i : goal.invariant-loop-i
invariant-loop-i l = AreCounted l.aggregations l.numbers l.i
