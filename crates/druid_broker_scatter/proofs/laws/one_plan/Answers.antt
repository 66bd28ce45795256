use Rattle.druid_broker_scatter.proofs.LawLemmas as law
use Rattle.druid_broker_scatter.proofs.laws.one_plan.Goals as goal

pub returns : goal.returns
returns c = law.one_plan
