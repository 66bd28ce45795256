use Rattle.druid_laws_world.proofs.RunLemmas.{reached-holds, equal_marks, determined, folded}
use Rattle.druid_laws_world.proofs.laws.same_marks_same_inventory.Goals as goal

pub returns-clause-reached : goal.returns-clause-reached
returns-clause-reached c s h = ((reached-holds s h).world, (reached-holds s h).brokers)

pub returns-clause-equal : goal.returns-clause-equal
returns-clause-equal c = equal_marks

pub returns-clause-determined : goal.returns-clause-determined
returns-clause-determined c = determined

pub returns-clause-folded : goal.returns-clause-folded
returns-clause-folded c = folded
