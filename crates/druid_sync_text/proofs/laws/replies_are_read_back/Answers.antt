use Rattle.std.proofs.Common.{subst, sym, ◌≤◌}
use Rattle.druid_segment_descriptor.specs.declared.reply.Body.TheVariants.{Delta, Snapshot, Page, Reset}
use Rattle.druid_sync_text.proofs.WrittenLemmas.{reply_read, page_form}
use Rattle.druid_sync_text.proofs.BackLemmas.{delta_back, snapshot_back, reset_back}
use Rattle.druid_sync_text.proofs.laws.replies_are_read_back.Goals as goal

pub returns-clause-form : goal.returns-clause-form
returns-clause-form c (Delta from to changes) is valid =
    delta_back from to changes is.incarnation (subst (λ n. 1 ≤ n) (sym is.far.incarnation) is.incarnation) valid
returns-clause-form c (Snapshot at segments) is valid = snapshot_back at segments is.incarnation valid
returns-clause-form c (Page at page of segments) is valid = page_form at page of segments is valid
returns-clause-form c (Reset cause at) is valid = reset_back cause at is

pub returns-clause-text : goal.returns-clause-text
returns-clause-text c = reply_read
