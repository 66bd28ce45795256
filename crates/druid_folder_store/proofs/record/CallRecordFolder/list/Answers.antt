use Rattle.std.proofs.Common.{◌≡◌, ◌∙◌, ap, subst}
use Rattle.druid_folder.specs.Folder.{nothing, AreNames, names_of}
use Rattle.druid_folder_store.specs.Record.{content_after}
use Rattle.druid_folder_store.specs.declared.record.Call.TheVariants.{Looked}
use Rattle.druid_folder_store.proofs.Calls.{content_pushed, left_looked, elapses_pushed}
use Rattle.druid_folder_store.proofs.Order.{valid_names, same_names}
use Rattle.druid_folder_store.proofs.record.CallRecordFolder.list.Goals as goal

pub returns-in_err-names-clause-unchanged : goal.returns-in_err-names-clause-unchanged
returns-in_err-names-clause-unchanged c honest = content_pushed _ _ Looked c.in_ok-note.ensures.ok

pub returns-in_err-names-clause-stop : goal.returns-in_err-names-clause-stop
returns-in_err-names-clause-stop c honest = left_looked _ _ c.in_ok-note.ensures.ok

pub returns-clause-order : goal.returns-clause-order
returns-clause-order c = c.put_in_order.ensures.order

pub returns-clause-file_names : goal.returns-clause-file_names
returns-clause-file_names c = valid_names _ _ c.put_in_order.ensures.same c.in_ok-names.ensures.valid

pub returns-clause-names : goal.returns-clause-names
returns-clause-names c honest =
    let same : content_after nothing c.deref.result.now ≡ content_after nothing c.args.self.now.calls.items =
    ap (content_after nothing) c.deref.ensures.value ∙ content_pushed _ _ Looked c.in_ok-note.ensures.ok in
    subst (λ files. AreNames files (names_of c.put_in_order.new.names.items)) same
    (same_names _ _ c.put_in_order.ensures.same (content_after nothing c.deref.result.now) c.in_ok-names.ensures)

pub returns-clause-unchanged : goal.returns-clause-unchanged
returns-clause-unchanged c honest = content_pushed _ _ Looked c.in_ok-note.ensures.ok

pub returns-clause-stop : goal.returns-clause-stop
returns-clause-stop c honest = left_looked _ _ c.in_ok-note.ensures.ok

pub returns-clause-time : goal.returns-clause-time
returns-clause-time c honest = elapses_pushed _ _ Looked c.in_ok-note.ensures.ok
