use Rattle.druid_partial_text.proofs.NamedLemmas.{ValuesSet}
use Rattle.druid_partial_text.proofs.results.set_values.Given as goal

abbrev pub invariant-loop-i : goal.invariant-loop-i
invariant-loop-i l = ValuesSet l.dimensions l.fn.columns.entries l.columns.entries l.i
