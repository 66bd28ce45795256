use Rattle.std.proofs.Common.{map, ap, arith}
use Rattle.druid_segment_id.specs.Group.{group_of}
use Rattle.druid_timeline_chunks.proofs.OverlapLemmas.{passed_by, none_found}
use Rattle.druid_timeline_chunks.proofs.overlap.overlaps_in.Goals as goal

pub loop-from-init : goal.loop-from-init
loop-from-init c = record {
  within = omega arith;
  found = none_found c.args.items.now (group_of c.args.id.now) c.args.part _ (ap (map (λ key. key.now)) c.new-found.ensures.items);
}

pub add_overlaps-requires-clause-found : goal.add_overlaps-requires-clause-found
add_overlaps-requires-clause-found c =
    passed_by c.args.items.now c.loop-from.from c.near-low.result.0 (group_of c.args.id.now) c.args.part (map (λ key. key.now) c.loop-from.found.items) c.near-low.ensures.low
    (λ k d a b over. c.near-low.ensures.early k d a b over.2) c.loop-from.invariant.found

pub loop-from-preserved : goal.loop-from-preserved
loop-from-preserved c = record {
  within = c.near-low.ensures.end;
  found =
      passed_by c.args.items.now c.near-low.result.1 c.near-low.result.2 (group_of c.args.id.now) c.args.part (map (λ key. key.now) c.in_ok-found.found.items) c.near-low.ensures.next
      (λ k d a b over. c.near-low.ensures.late k d a b over.2) c.in_ok-found.ensures;
}
