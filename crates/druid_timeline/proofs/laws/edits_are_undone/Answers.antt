use Rattle.druid_timeline.proofs.EditLemmas.{added_after_removed, removed_after_added, one_after_added, one_after_removed}
use Rattle.druid_timeline.proofs.laws.edits_are_undone.Goals as goal

pub returns-clause-added_after_removed : goal.returns-clause-added_after_removed
returns-clause-added_after_removed c = added_after_removed

pub returns-clause-removed_after_added : goal.returns-clause-removed_after_added
returns-clause-removed_after_added c = removed_after_added

pub returns-clause-one_after_added : goal.returns-clause-one_after_added
returns-clause-one_after_added c = one_after_added

pub returns-clause-one_after_removed : goal.returns-clause-one_after_removed
returns-clause-one_after_removed c = one_after_removed
