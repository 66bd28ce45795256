use Rattle.druid_partial_text.proofs.RowLemmas.{EachNumber}
use Rattle.druid_partial_text.proofs.partial_reader.are_numbers.Given as goal

abbrev pub invariant-loop-i : goal.invariant-loop-i
invariant-loop-i l = EachNumber l.aggregations l.values l.i
