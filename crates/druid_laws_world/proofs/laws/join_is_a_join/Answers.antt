use Rattle.druid_laws_world.proofs.JoinLemmas.{join_self, join_swapped, join_assoc, join_there, joined_true, never_conflict}
use Rattle.druid_laws_world.proofs.laws.join_is_a_join.Goals as goal

pub returns-clause-some : goal.returns-clause-some
returns-clause-some c = join_there

pub returns-clause-joined : goal.returns-clause-joined
returns-clause-joined c = joined_true

pub returns-clause-no_conflict : goal.returns-clause-no_conflict
returns-clause-no_conflict c = never_conflict

pub returns-clause-idempotent : goal.returns-clause-idempotent
returns-clause-idempotent c = join_self

pub returns-clause-commutative : goal.returns-clause-commutative
returns-clause-commutative c = join_swapped

pub returns-clause-associative : goal.returns-clause-associative
returns-clause-associative c = join_assoc
