use Rattle.std.proofs.Common.{sym, subst}
use Rattle.std.specs.Result.{OnOk, OnErr}
use Rattle.druid_timeline_members.specs.Members.{member_of, Adds, SameMembers}
use Rattle.druid_timeline_chunks.specs.Chunks.{Chunk}
use Rattle.druid_timeline_chunks.proofs.EditLemmas.{borrowed_chunk, was_ok}
use Rattle.druid_timeline_chunks.proofs.chunk.Chunk.add.Goals as goal

pub returns-clause-added : goal.returns-clause-added
returns-clause-added c =
    let borrowed = borrowed_chunk c.in_ok-contents.contents.now _ c.args.self.now c.in_ok-contents.ensures.value c.self.view_is in
    let written = c.make_mut.follows.holds c.add.new.self (was_ok c.in_ok-contents.was) in
    subst (λ (x : Chunk). OnOk c.add.result (Adds c.args.self.now.1 x.1 (member_of c.args.node c.args.descriptor.now))) (sym written)
    (subst (λ (x : Chunk). OnOk c.add.result (Adds x.1 c.add.new.self.1 (member_of c.args.node c.args.descriptor.now))) borrowed c.add.ensures.added)

pub returns-clause-err : goal.returns-clause-err
returns-clause-err c =
    let borrowed = borrowed_chunk c.in_ok-contents.contents.now _ c.args.self.now c.in_ok-contents.ensures.value c.self.view_is in
    let written = c.make_mut.follows.holds c.add.new.self (was_ok c.in_ok-contents.was) in
    subst (λ (x : Chunk). OnErr c.add.result (SameMembers c.args.self.now.1 x.1)) (sym written)
    (subst (λ (x : Chunk). OnErr c.add.result (SameMembers x.1 c.add.new.self.1)) borrowed c.add.ensures.err)
