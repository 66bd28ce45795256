use Rattle.druid_partial_text.specs.Read.{number_or_null}
use Rattle.druid_partial.specs.Groups.{AreWords}
use Rattle.druid_partial_text.proofs.MadeLemmas.{Made}
use Rattle.druid_partial_text.proofs.partial_reader.numbers_in.Given as goal

abbrev pub invariant-loop-value : goal.invariant-loop-value
invariant-loop-value l = Made number_or_null l.made.items l.values l.value-index × AreWords l.made.items
