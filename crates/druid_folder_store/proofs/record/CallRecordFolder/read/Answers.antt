use Rattle.std.proofs.Common.{refl, sym, ◌∙◌, ap}
use Rattle.druid_folder.specs.Folder.{nothing, read_part}
use Rattle.druid_folder_store.specs.Record.{content_after}
use Rattle.druid_folder_store.specs.declared.record.Call.TheVariants.{Looked}
use Rattle.druid_folder_store.proofs.Calls.{content_pushed, left_looked, absent}
use Rattle.druid_folder.proofs.ReadPart.{read_part-None}
use Rattle.druid_folder_store.proofs.record.CallRecordFolder.read.Goals as goal

pub returns-in_err-read_part-in-Some-clause-unchanged : goal.returns-in_err-read_part-in-Some-clause-unchanged
returns-in_err-read_part-in-Some-clause-unchanged c honest = content_pushed _ _ Looked c.in_ok-note.ensures.ok

pub returns-in_err-read_part-in-Some-clause-stop : goal.returns-in_err-read_part-in-Some-clause-stop
returns-in_err-read_part-in-Some-clause-stop c honest = left_looked _ _ c.in_ok-note.ensures.ok

pub returns-in-None-clause-unchanged : goal.returns-in-None-clause-unchanged
returns-in-None-clause-unchanged c honest = content_pushed _ _ Looked c.in_ok-note.ensures.ok

pub returns-in-None-clause-stop : goal.returns-in-None-clause-stop
returns-in-None-clause-stop c honest = left_looked _ _ c.in_ok-note.ensures.ok

pub returns-in_ok-read_part-in-Some-clause-unchanged : goal.returns-in_ok-read_part-in-Some-clause-unchanged
returns-in_ok-read_part-in-Some-clause-unchanged c honest = content_pushed _ _ Looked c.in_ok-note.ensures.ok

pub returns-in_ok-read_part-in-Some-clause-stop : goal.returns-in_ok-read_part-in-Some-clause-stop
returns-in_ok-read_part-in-Some-clause-stop c honest = left_looked _ _ c.in_ok-note.ensures.ok

pub returns-in-None-clause-found : goal.returns-in-None-clause-found
returns-in-None-clause-found c honest =
    sym read_part-None
    ∙ ap read_part (
    c.in-None.ensures
    ∙ ap (λ calls. content_after nothing calls c.as_bytes.result.now) c.deref.ensures.value
    ∙ ap (content_after nothing c.note.new.calls.items) c.as_bytes.ensures.value
    ∙ ap (λ files. files c.args.name.now) (content_pushed _ _ Looked c.in_ok-note.ensures.ok)
    )

pub returns-in_ok-read_part-in-Some-clause-found : goal.returns-in_ok-read_part-in-Some-clause-found
returns-in_ok-read_part-in-Some-clause-found c honest =
    c.in_ok-read_part-in-Some.ensures.part
    ∙ ap read_part (
    c.in-Some.ensures
    ∙ ap (λ calls. content_after nothing calls c.as_bytes.result.now) c.deref.ensures.value
    ∙ ap (content_after nothing c.note.new.calls.items) c.as_bytes.ensures.value
    ∙ ap (λ files. files c.args.name.now) (content_pushed _ _ Looked c.in_ok-note.ensures.ok)
    )

pub returns-in_ok-read_part-in-Some-clause-no_name : goal.returns-in_ok-read_part-in-Some-clause-no_name
returns-in_ok-read_part-in-Some-clause-no_name c bad =
    let none = absent nothing c.note.new.calls.items c.args.name.now bad refl in
    let is = c.in-Some.ensures
    ∙ ap (λ calls. content_after nothing calls c.as_bytes.result.now) c.deref.ensures.value
    ∙ ap (content_after nothing c.note.new.calls.items) c.as_bytes.ensures.value
    ∙ none in
    absurd (cc is)
