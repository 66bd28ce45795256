use Rattle.druid_laws_headline.proofs.FoldLemmas.{of_world, equal}
use Rattle.druid_laws_headline.proofs.laws.readers_agree.Goals as goal

pub returns-clause-of_world : goal.returns-clause-of_world
returns-clause-of_world c = of_world

pub returns-clause-equal : goal.returns-clause-equal
returns-clause-equal c = equal
