use Rattle.std.proofs.Common.{subst}
use Rattle.druid_timeline_members.specs.Members.{member_of, HoldsPlace, Adds, SameMembers}
use Rattle.druid_timeline_chunks.specs.Chunks.{Chunk}
use Rattle.druid_base.proofs.ClauseLemmas.{always_err}
use Rattle.druid_timeline_chunks.proofs.chunk.Contents.add.Goals as goal

pub returns-in_err-add-clause-err : goal.returns-in_err-add-clause-err
returns-in_err-add-clause-err c =
    always_err c.from_residual.result (SameMembers c.args.self.now.1 c.add.new.self) (subst (λ (p : Chunk). SameMembers p.1 c.add.new.self) c.self.view_is c.in_err-add.ensures.err)

pub returns-clause-added : goal.returns-clause-added
returns-clause-added c =
    let reported = c.in_ok-add.ensures.held.1 (λ place. c.requires (subst (λ (p : Chunk). HoldsPlace p.1 c.args.descriptor.now.id.partition c.args.node) c.self.view_is place)) in
    subst (λ (p : Chunk). Adds p.1 c.add.new.self (member_of c.args.node c.args.descriptor.now)) c.self.view_is (c.in_ok-add.ensures.added reported)
