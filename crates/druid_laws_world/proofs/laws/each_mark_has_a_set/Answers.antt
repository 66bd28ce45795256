use Rattle.druid_laws_world.proofs.WorldLemmas.{set_there, came_to}
use Rattle.druid_laws_world.proofs.laws.each_mark_has_a_set.Goals as goal

pub returns-clause-there : goal.returns-clause-there
returns-clause-there c = set_there

pub returns-clause-none : goal.returns-clause-none
returns-clause-none c = came_to
