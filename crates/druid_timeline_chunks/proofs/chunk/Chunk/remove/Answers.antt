use Rattle.std.proofs.Common.{sym, subst}
use Rattle.druid_timeline_members.specs.Members.{RemovesPlace, RemovesOne}
use Rattle.druid_timeline_chunks.specs.Chunks.{Chunk}
use Rattle.druid_timeline_chunks.proofs.EditLemmas.{borrowed_chunk, was_ok}
use Rattle.druid_timeline_chunks.proofs.chunk.Chunk.remove.Goals as goal

pub returns-clause-removed : goal.returns-clause-removed
returns-clause-removed c =
    let borrowed = borrowed_chunk c.in_ok-contents.contents.now _ c.args.self.now c.in_ok-contents.ensures.value c.self.view_is in
    let written = c.make_mut.follows.holds c.remove.new.self (was_ok c.in_ok-contents.was) in
    subst (λ (x : Chunk). RemovesPlace c.args.self.now.1 x.1 c.args.partition c.args.node) (sym written)
    (subst (λ (x : Chunk). RemovesPlace x.1 c.remove.new.self.1 c.args.partition c.args.node) borrowed c.remove.ensures.removed)

pub returns-clause-one : goal.returns-clause-one
returns-clause-one c =
    let borrowed = borrowed_chunk c.in_ok-contents.contents.now _ c.args.self.now c.in_ok-contents.ensures.value c.self.view_is in
    let written = c.make_mut.follows.holds c.remove.new.self (was_ok c.in_ok-contents.was) in
    subst (λ (x : Chunk). RemovesOne c.args.self.now.1 x.1 c.args.partition c.args.node) (sym written)
    (subst (λ (x : Chunk). RemovesOne x.1 c.remove.new.self.1 c.args.partition c.args.node) borrowed c.remove.ensures.one)
