use Rattle.std.proofs.Common.{List, ◌↔◌, subst}
use Rattle.std.specs.Bool.{IsTrue}
use Rattle.druid_timeline_members.specs.Members.{Member, AllAt}
use Rattle.druid_timeline_chunks.proofs.chunk.Chunk.is_only.Goals as goal

pub returns-clause-only : goal.returns-clause-only
returns-clause-only c =
    subst (λ (ms : List Member). IsTrue c.is_only.result ↔ AllAt ms c.args.partition c.args.node) c.members-members.ensures c.is_only.ensures
