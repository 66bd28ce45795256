use Rattle.druid_partial_text.proofs.RowLemmas.{EachRow}
use Rattle.druid_partial_text.proofs.partial_reader.are_rows.Given as goal

abbrev pub invariant-loop-value : goal.invariant-loop-value
invariant-loop-value l = EachRow l.query l.values l.value-index
