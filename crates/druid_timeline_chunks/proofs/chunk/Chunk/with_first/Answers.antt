use Rattle.std.proofs.Common.{List, [], sym, subst}
use Rattle.druid_timeline_members.specs.Members.{Member, member_of, Adds}
use Rattle.druid_timeline_chunks.specs.Chunks.{Chunk}
use Rattle.druid_timeline_chunks.proofs.EditLemmas.{nothing_there}
use Rattle.druid_timeline_chunks.proofs.chunk.Chunk.with_first.Goals as goal

pub returns-clause-added : goal.returns-clause-added
returns-clause-added c =
    let reported = c.in_ok-add.ensures.held.1 (nothing_there c.new-members.result c.args.descriptor.now.id.partition c.args.node c.new-members.ensures) in
    subst (λ (x : Chunk). Adds [] x.1 (member_of c.args.node c.args.descriptor.now)) (sym c.in_ok-contents.ensures.ok)
    (subst (λ (ms : List Member). Adds ms c.add.new.self (member_of c.args.node c.args.descriptor.now)) c.new-members.ensures (c.in_ok-add.ensures.added reported))
