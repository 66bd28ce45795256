use Rattle.druid_broker_scatter.proofs.LawLemmas.{may_be_asked}
use Rattle.druid_broker_scatter.proofs.laws.plans_may_be_asked.Goals as goal

pub returns : goal.returns
returns c = may_be_asked
