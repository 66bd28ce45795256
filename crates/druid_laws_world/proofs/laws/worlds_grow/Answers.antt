use Rattle.druid_laws_world.proofs.RunLemmas.{next-grows}
use Rattle.druid_laws_world.proofs.WorldLemmas.{honest-grows}
use Rattle.druid_laws_world.proofs.laws.worlds_grow.Goals as goal

pub returns-clause-grows : goal.returns-clause-grows
returns-clause-grows c = next-grows

pub returns-clause-honest : goal.returns-clause-honest
returns-clause-honest c = honest-grows
