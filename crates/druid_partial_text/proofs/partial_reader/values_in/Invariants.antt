use Rattle.druid_base.specs.Fields.{text_or_null}
use Rattle.druid_filter.specs.Values.{nullable_texts_of}
use Rattle.druid_partial_text.proofs.MadeLemmas.{Made}
use Rattle.druid_partial_text.proofs.partial_reader.values_in.Given as goal

abbrev pub invariant-loop-value : goal.invariant-loop-value
invariant-loop-value l = Made text_or_null (nullable_texts_of l.made.items) l.values l.value-index
