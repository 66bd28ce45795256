use Rattle.std.proofs.Common.{◌↔◌, ℕ, List, ap, sym, subst}
use Rattle.std.specs.List.{Contains}
use Rattle.druid_segment_id.specs.Group.{group_of}
use Rattle.druid_timeline_members.specs.Members.{ServesPlace}
use Rattle.druid_timeline_chunks.specs.Chunks.{members_at}
use Rattle.druid_timeline.specs.Holding.{Held, Serving, HasRows}
use Rattle.druid_timeline_chunks.proofs.EditLemmas.{if_ok_weaker}
use Rattle.druid_timeline.proofs.ChunkLemmas.{HasRows-chunk}
use Rattle.druid_timeline.proofs.timeline.Timeline.served.Goals as goal

pub returns-clause-nodes : goal.returns-clause-nodes
returns-clause-nodes c =
    let source = c.is_source_of.ensures.0 c.if-not-is_source_of.false in
    if_ok_weaker c.from_slice.result _ _ c.from_slice.ensures.items (λ v items n.
    let held = subst (λ (hs : List Held). HasRows hs n c.args.id.now ↔ ServesPlace (members_at c.self.inside.chunks (group_of c.args.id.now)) c.args.id.now.partition n) (ap (λ (s : Serving). s.held) c.self.view_is)
    (HasRows-chunk c.self.inside.chunks c.served.ensures.chunks n c.args.id.now) in
    let place = subst (λ (ns : List ℕ). Contains ns n ↔ ServesPlace (members_at c.self.inside.chunks (group_of c.args.id.now)) c.args.id.now.partition n) (sym items) (c.served.ensures.nodes n) in
    (λ there. (source, held.1 (place.0 there)), λ served. place.1 (held.0 served.1)))
