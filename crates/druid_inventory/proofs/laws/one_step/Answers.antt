use Rattle.druid_inventory.proofs.StepLemmas.{Steps-one, Steps-some, Refuses-one, Steps-not_refused}
use Rattle.druid_inventory.proofs.laws.one_step.Goals as goal

pub returns : goal.returns
returns c = record { same = Steps-one; refusal = Refuses-one; apart = Steps-not_refused; some = Steps-some }
