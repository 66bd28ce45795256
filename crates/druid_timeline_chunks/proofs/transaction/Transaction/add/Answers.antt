use Rattle.std.proofs.Common.{subst}
use Rattle.std.specs.Result.{OnOk, OnErr}
use Rattle.druid_segment_id.specs.Group.{group_of}
use Rattle.druid_timeline_members.specs.Members.{member_of, Adds, SameMembers}
use Rattle.druid_timeline_chunks.specs.Chunks.{members_at}
use Rattle.druid_timeline_chunks.specs.Edits.{Edited}
use Rattle.druid_timeline_chunks.proofs.transaction.Transaction.add.Goals as goal

pub returns-clause-added : goal.returns-clause-added
returns-clause-added c =
    subst (λ (e : Edited). OnOk c.add_logged.result (Adds (members_at e.now (group_of c.args.descriptor.now.id)) (members_at c.add_logged.new.chunks (group_of c.args.descriptor.now.id)) (member_of c.args.node c.args.descriptor.now)))
    c.self.view_is c.add_logged.ensures.added

pub returns-clause-err : goal.returns-clause-err
returns-clause-err c =
    subst (λ (e : Edited). OnErr c.add_logged.result (SameMembers (members_at e.now (group_of c.args.descriptor.now.id)) (members_at c.add_logged.new.chunks (group_of c.args.descriptor.now.id))))
    c.self.view_is c.add_logged.ensures.err
