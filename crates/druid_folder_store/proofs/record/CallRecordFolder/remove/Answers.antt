use Rattle.std.proofs.Common.{◌∙◌, ap}
use Rattle.druid_folder.specs.Folder.{nothing, without}
use Rattle.druid_folder_store.specs.Record.{content_after}
use Rattle.druid_folder_store.specs.declared.record.Call.TheVariants.{Removed}
use Rattle.druid_folder_store.proofs.Calls.{content_pushed, left_before, without_named}
use Rattle.druid_folder_store.proofs.record.CallRecordFolder.remove.Goals as goal

pub returns-clause-done : goal.returns-clause-done
returns-clause-done c honest =
    content_pushed _ _ (Removed c.in_ok-name.name) c.in_ok-note.ensures.ok
    ∙ ap (λ name. without name (content_after nothing c.args.self.now.calls.items)) c.in_ok-name.ensures

pub returns-clause-stop : goal.returns-clause-stop
returns-clause-stop c honest left is =
    without_named _ _ _ left c.in_ok-name.ensures
    (left_before _ _ (Removed c.in_ok-name.name) c.in_ok-note.ensures.ok left is)
