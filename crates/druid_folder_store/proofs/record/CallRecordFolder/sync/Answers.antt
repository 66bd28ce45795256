use Rattle.druid_folder_store.specs.declared.record.Call.TheVariants.{Synced}
use Rattle.druid_folder_store.proofs.Calls.{content_pushed, left_before}
use Rattle.std.proofs.Common.{sym, subst}
use Rattle.druid_folder_store.specs.Record.{IsLeft}
use Rattle.druid_folder_store.specs.RecordLaws.{content_may_stay}
use Rattle.druid_folder_store.proofs.record.CallRecordFolder.sync.Goals as goal

pub returns-clause-stable : goal.returns-clause-stable
returns-clause-stable c honest = left_before _ _ Synced c.in_ok-note.ensures.ok

pub returns-clause-unchanged : goal.returns-clause-unchanged
returns-clause-unchanged c honest = content_pushed _ _ Synced c.in_ok-note.ensures.ok

pub returns-clause-stop : goal.returns-clause-stop
returns-clause-stop c honest left is = subst (IsLeft c.args.self.now.calls.items) (sym (left_before _ _ Synced c.in_ok-note.ensures.ok left is)) (content_may_stay c.args.self.now.calls.items)
