use Rattle.druid_partial_text.proofs.NamedLemmas.{NumbersSet}
use Rattle.druid_partial_text.proofs.results.set_numbers.Given as goal

abbrev pub invariant-loop-i : goal.invariant-loop-i
invariant-loop-i l = NumbersSet l.aggregations l.fn.columns.entries l.columns.entries l.i
