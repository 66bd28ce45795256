use Rattle.std.proofs.Common.{subst}
use Rattle.std.specs.Result.{OnOk, OnErr}
use Rattle.druid_segment_id.specs.Group.{group_of}
use Rattle.druid_timeline_members.specs.Members.{RemovesPlace, RemovesOne, SameMembers}
use Rattle.druid_timeline_chunks.specs.Chunks.{members_at}
use Rattle.druid_timeline_chunks.specs.Edits.{Edited}
use Rattle.druid_timeline_chunks.proofs.transaction.Transaction.remove.Goals as goal

pub returns-clause-removed : goal.returns-clause-removed
returns-clause-removed c =
    subst (λ (e : Edited). OnOk c.remove_logged.result (RemovesPlace (members_at e.now (group_of c.args.id.now)) (members_at c.remove_logged.new.chunks (group_of c.args.id.now)) c.args.id.now.partition c.args.node))
    c.self.view_is c.remove_logged.ensures.removed

pub returns-clause-one : goal.returns-clause-one
returns-clause-one c =
    subst (λ (e : Edited). OnOk c.remove_logged.result (RemovesOne (members_at e.now (group_of c.args.id.now)) (members_at c.remove_logged.new.chunks (group_of c.args.id.now)) c.args.id.now.partition c.args.node))
    c.self.view_is c.remove_logged.ensures.one

pub returns-clause-err : goal.returns-clause-err
returns-clause-err c =
    subst (λ (e : Edited). OnErr c.remove_logged.result (SameMembers (members_at e.now (group_of c.args.id.now)) (members_at c.remove_logged.new.chunks (group_of c.args.id.now))))
    c.self.view_is c.remove_logged.ensures.err
