use Rattle.druid_laws_world.proofs.NextLemmas.{next-one, not_refused, happens}
use Rattle.druid_laws_world.proofs.laws.one_next.Goals as goal

pub returns-clause-one : goal.returns-clause-one
returns-clause-one c = next-one

pub returns-clause-not_refused : goal.returns-clause-not_refused
returns-clause-not_refused c = not_refused

pub returns-clause-some : goal.returns-clause-some
returns-clause-some c = happens
