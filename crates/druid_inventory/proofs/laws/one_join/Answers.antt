use Rattle.std.proofs.Common.{sym, ◌∙◌}
use Rattle.druid_inventory.proofs.JoinLemmas.{refused_or_joined, one_refusal, join_some}
use Rattle.druid_inventory.proofs.laws.one_join.Goals as goal

pub returns-clause-same : goal.returns-clause-same
returns-clause-same c a b joined other h k = h.entries ∙ sym k.entries

pub returns-clause-refusal : goal.returns-clause-refusal
returns-clause-refusal c = one_refusal

pub returns-clause-apart : goal.returns-clause-apart
returns-clause-apart c = refused_or_joined

pub returns-clause-some : goal.returns-clause-some
returns-clause-some c = join_some
