use Rattle.druid_query.specs.Asked.{asked_at}
use Rattle.druid_partial_text.proofs.MadeLemmas.{Made}
use Rattle.druid_partial_text.proofs.missing.pieces_in.Given as goal

abbrev pub invariant-loop-value : goal.invariant-loop-value
invariant-loop-value l = Made (asked_at l.source) l.all.items l.values l.value-index
