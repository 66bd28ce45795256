use Rattle.std.proofs.Common.{sym, ◌∙◌}
use Rattle.druid_folder.specs.Folder.{nothing}
use Rattle.druid_folder_store.specs.Record.{content_after}
use Rattle.druid_folder_store.proofs.Calls.{last_call}
use Rattle.druid_folder_store.proofs.record.find.Goals as goal

pub returns-in-Bytes : goal.returns-in-Bytes
returns-in-Bytes c =
    sym (c.in-Bytes.ensures (content_after nothing c.in-Some.before.now))
    ∙ last_call c.loop-call.rest.now c.in-Some.before.now c.in-Some.call.now c.loop-call.wanted.now c.in-Some.ensures.cases.0
    ∙ c.loop-call.invariant

pub returns-in-NoFile : goal.returns-in-NoFile
returns-in-NoFile c =
    sym (c.in-NoFile.ensures (content_after nothing c.in-Some.before.now))
    ∙ last_call c.loop-call.rest.now c.in-Some.before.now c.in-Some.call.now c.loop-call.wanted.now c.in-Some.ensures.cases.0
    ∙ c.loop-call.invariant

pub loop-call-preserved : goal.loop-call-preserved
loop-call-preserved c =
    sym (c.in-Before.ensures (content_after nothing c.in-Some.before.now))
    ∙ last_call c.loop-call.rest.now c.in-Some.before.now c.in-Some.call.now c.loop-call.wanted.now c.in-Some.ensures.cases.0
    ∙ c.loop-call.invariant
