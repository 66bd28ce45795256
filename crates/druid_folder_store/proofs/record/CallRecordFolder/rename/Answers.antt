use Rattle.std.proofs.Common.{inl, ◌∙◌}
use Rattle.druid_folder.specs.Folder.{nothing, renamed}
use Rattle.druid_folder_store.specs.Record.{content_after}
use Rattle.druid_folder_store.specs.declared.record.Call.TheVariants.{Failed}
use Rattle.druid_folder_store.proofs.Calls.{content_pushed, left_before, left_failed, elapses_pushed, undone_left, rename_done, rename_left}
use Rattle.druid_folder_store.proofs.record.CallRecordFolder.rename.Goals as goal

pub returns-then-is_none-clause-failed : goal.returns-then-is_none-clause-failed
returns-then-is_none-clause-failed c honest = inl (content_pushed _ _ Failed c.in_ok-note.ensures.ok)

pub returns-then-is_none-clause-stop : goal.returns-then-is_none-clause-stop
returns-then-is_none-clause-stop c honest =
    undone_left (renamed c.args.from.now c.args.to.now) c.args.self.now.calls.items c.note.new.calls.items
    (left_failed _ _ c.in_ok-note.ensures.ok)

pub returns-clause-done : goal.returns-clause-done
returns-clause-done c honest =
    content_pushed _ _ c.in_ok-call.call c.in_ok-note-2.ensures.ok ∙ rename_done _ _ _ c.in_ok-call.ensures (content_after nothing c.args.self.now.calls.items)

pub returns-clause-stop : goal.returns-clause-stop
returns-clause-stop c honest left is =
    rename_left _ _ _ c.in_ok-call.ensures _ _ left (left_before _ _ c.in_ok-call.call c.in_ok-note-2.ensures.ok left is)

pub returns-clause-time : goal.returns-clause-time
returns-clause-time c honest = elapses_pushed _ _ c.in_ok-call.call c.in_ok-note-2.ensures.ok
