use Rattle.std.proofs.Common.{◌↔◌, List, refl, ap, subst}
use Rattle.std.specs.Bool.{IsTrue}
use Rattle.druid_segment_id.specs.Group.{group_of}
use Rattle.druid_timeline_members.specs.Members.{HoldsPlace}
use Rattle.druid_timeline_chunks.specs.Chunks.{Chunk, AreChunks, members_at}
use Rattle.druid_timeline.specs.Holding.{Held, IsHeld}
use Rattle.druid_timeline.specs.Transactions.{Edited}
use Rattle.druid_timeline.proofs.ChunkLemmas.{holds_held}
use Rattle.druid_timeline.proofs.transaction.Transaction.is_held.Goals as goal

pub returns : goal.returns
returns c =
    let are = subst AreChunks c.chunks.ensures c.holds.ensures.chunks in
    let held = subst (λ (cs : List Chunk). IsTrue c.holds.result ↔ HoldsPlace (members_at cs (group_of c.args.id.now)) c.args.id.now.partition c.args.node) c.chunks.ensures c.holds.ensures.held in
    subst (λ (hs : List Held). IsTrue c.holds.result ↔ IsHeld hs c.args.node c.args.id.now) (ap (λ (e : Edited). e.now.held) c.self.view_is)
    (holds_held c.self.inside.chunks.now are c.args.node c.args.id.now c.args.id.now c.holds.result refl held)
