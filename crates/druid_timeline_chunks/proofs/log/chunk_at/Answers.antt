use Rattle.std.proofs.Common.{◌∙◌, sym, ap, subst}
use Rattle.druid_timeline_members.specs.Members.{HasMember}
use Rattle.druid_timeline_chunks.specs.Chunks.{Chunk}
use Rattle.druid_timeline_chunks.proofs.ChunkLemmas.{members_at-none, members_at-of}
use Rattle.druid_timeline_chunks.proofs.UndoLemmas.{HasMember-of}
use Rattle.druid_timeline_chunks.proofs.log.chunk_at.Goals as goal

pub returns-in_ok-clone-in-Some-clause-saved : goal.returns-in_ok-clone-in-Some-clause-saved
returns-in_ok-clone-in-Some-clause-saved c =
    let found = c.in-Some.ensures.found in
    let some = HasMember-of c.args.chunks.now c.in-Some.chunk.now c.in-Some.ensures.chunks found.0 in
    (ap (λ (x : Chunk). x.0) c.in_ok-clone-in-Some.ensures.cases ∙ found.1, subst (λ (x : Chunk). HasMember x.1) (sym c.in_ok-clone-in-Some.ensures.cases) some)

pub returns-in_ok-clone-in-Some-clause-members : goal.returns-in_ok-clone-in-Some-clause-members
returns-in_ok-clone-in-Some-clause-members c =
    let found = c.in-Some.ensures.found in
    sym (ap (λ (x : Chunk). x.1) c.in_ok-clone-in-Some.ensures.cases ∙ members_at-of c.args.chunks.now c.in-Some.ensures.chunks c.args.key.now c.in-Some.chunk.now found.0 found.1)

pub returns-in-None-clause-members : goal.returns-in-None-clause-members
returns-in-None-clause-members c = members_at-none c.args.chunks.now c.args.key.now c.in-None.ensures.found
