use Rattle.std.proofs.Common.{All}
use Rattle.druid_partial_text.specs.Borrowed.{HasWords}
use Rattle.druid_partial_text.specs.Read.{group_at}
use Rattle.druid_partial_text.proofs.MadeLemmas.{Made}
use Rattle.druid_partial_text.proofs.partial_reader.groups_in.Given as goal

abbrev pub invariant-loop-value : goal.invariant-loop-value
invariant-loop-value l = All HasWords l.groups.items × Made group_at l.groups.items l.values l.value-index
