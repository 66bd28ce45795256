use Rattle.std.proofs.Common.{sym, subst}
use Rattle.druid_timeline_members.specs.Members.{HoldsPlace, RemovesPlace, RemovesOne}
use Rattle.druid_timeline_chunks.specs.Chunks.{Chunk}
use Rattle.druid_timeline_chunks.proofs.chunk.Contents.remove.Goals as goal

pub returns-clause-removed : goal.returns-clause-removed
returns-clause-removed c =
    subst (λ (p : Chunk). RemovesPlace p.1 c.remove.new.self c.args.partition c.args.node) c.self.view_is c.remove.ensures.removed

pub returns-clause-one : goal.returns-clause-one
returns-clause-one c =
    let reported = c.remove.ensures.held.1 (subst (λ (p : Chunk). HoldsPlace p.1 c.args.partition c.args.node) (sym c.self.view_is) c.requires) in
    subst (λ (p : Chunk). RemovesOne p.1 c.remove.new.self c.args.partition c.args.node) c.self.view_is (c.remove.ensures.one reported)
