use Rattle.druid_inventory.proofs.StepLemmas.{Steps-mark, Steps-moved}
use Rattle.druid_inventory.proofs.laws.marks_never_fall.Goals as goal

pub returns-clause-never : goal.returns-clause-never
returns-clause-never c = Steps-mark

pub returns-clause-moved : goal.returns-clause-moved
returns-clause-moved c = Steps-moved
