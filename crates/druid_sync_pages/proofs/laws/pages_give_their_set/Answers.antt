use Rattle.druid_sync_pages.proofs.SetLemmas.{of_given}
use Rattle.druid_sync_pages.proofs.laws.pages_give_their_set.Goals as goal

pub returns-clause-given : goal.returns-clause-given
returns-clause-given c = of_given
