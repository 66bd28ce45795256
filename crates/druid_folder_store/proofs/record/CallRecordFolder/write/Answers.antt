use Rattle.std.proofs.Common.{◌≡◌, Some, refl, ◌∙◌, ap, rules}
use Rattle.druid_folder.specs.Folder.{nothing, with_file}
use Rattle.druid_folder_store.specs.Record.{content_after}
use Rattle.druid_folder_store.specs.declared.record.Call.TheVariants.{Wrote}
use Rattle.druid_folder_store.proofs.Calls.{content_pushed, left_before, elapses_pushed, torn_unchanged, torn_left, torn_named, on_err}
use Rattle.druid_folder_store.proofs.record.CallRecordFolder.write.Goals as goal

pub returns-then-not-is_file_name-clause-failed : goal.returns-then-not-is_file_name-clause-failed
returns-then-not-is_file_name-clause-failed c honest = torn_unchanged c.args.name.now c.args.self.now.calls.items c.args.self.now.calls.items refl

pub returns-then-not-is_file_name-clause-stop : goal.returns-then-not-is_file_name-clause-stop
returns-then-not-is_file_name-clause-stop c honest = torn_left c.args.name.now c.args.self.now.calls.items c.args.self.now.calls.items refl

pub returns-in_err-name-clause-failed : goal.returns-in_err-name-clause-failed
returns-in_err-name-clause-failed c honest = on_err c.from_residual.result (torn_unchanged c.args.name.now c.args.self.now.calls.items c.args.self.now.calls.items refl)

pub returns-in_err-name-clause-stop : goal.returns-in_err-name-clause-stop
returns-in_err-name-clause-stop c honest = torn_left c.args.name.now c.args.self.now.calls.items c.args.self.now.calls.items refl

pub returns-in_err-bytes-clause-failed : goal.returns-in_err-bytes-clause-failed
returns-in_err-bytes-clause-failed c honest = on_err c.from_residual-in_err-bytes.result (torn_unchanged c.args.name.now c.args.self.now.calls.items c.args.self.now.calls.items refl)

pub returns-in_err-bytes-clause-stop : goal.returns-in_err-bytes-clause-stop
returns-in_err-bytes-clause-stop c honest = torn_left c.args.name.now c.args.self.now.calls.items c.args.self.now.calls.items refl

pub returns-in_err-note-clause-failed : goal.returns-in_err-note-clause-failed
returns-in_err-note-clause-failed c honest = on_err c.from_residual-in_err-note.result (torn_unchanged c.args.name.now c.args.self.now.calls.items c.note.new.calls.items c.in_err-note.ensures.err)

pub returns-in_err-note-clause-stop : goal.returns-in_err-note-clause-stop
returns-in_err-note-clause-stop c honest = torn_left c.args.name.now c.args.self.now.calls.items c.note.new.calls.items c.in_err-note.ensures.err

pub returns-clause-written : goal.returns-clause-written
returns-clause-written c honest =
    let files = content_after nothing c.args.self.now.calls.items in
    let bytes : c.in_ok-bytes.bytes.items ≡ c.args.bytes.now = search rules in
    content_pushed _ _ (Wrote c.in_ok-name.name c.in_ok-bytes.bytes) c.in_ok-note.ensures.ok
    ∙ ap (λ name. with_file files name (Some c.in_ok-bytes.bytes.items)) c.in_ok-name.ensures
    ∙ ap (λ file. with_file files c.args.name.now (Some file)) bytes

pub returns-clause-stop : goal.returns-clause-stop
returns-clause-stop c honest left is =
    torn_named _ _ _ left c.in_ok-name.ensures
    (left_before _ _ (Wrote c.in_ok-name.name c.in_ok-bytes.bytes) c.in_ok-note.ensures.ok left is)

pub returns-clause-time : goal.returns-clause-time
returns-clause-time c honest =
    elapses_pushed _ _ (Wrote c.in_ok-name.name c.in_ok-bytes.bytes) c.in_ok-note.ensures.ok
