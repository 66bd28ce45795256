use Rattle.std.proofs.Common.{rules, nat_lt}
use Rattle.std.proofs.lemmas.Bool.{ltb-true}
use Rattle.std.proofs.lemmas.List.Sorted.{IsPartitionPoint-from_clause, IsPartitionedBy-ltb}
use Rattle.druid_timeline_chunks.specs.Chunks.{Chunk}
use Rattle.druid_timeline_chunks.specs.Places.{chunk_place}
use Rattle.druid_timeline_chunks.proofs.OrderLemmas.{not_less}
use Rattle.druid_timeline_chunks.proofs.order.first_from.Goals as goal

pub returns-clause-before : goal.returns-clause-before
returns-clause-before c k d low high =
    let parted = IsPartitionedBy-ltb chunk_place c.args.items.now c.args.place.now c.requires in
    let point = IsPartitionPoint-from_clause (λ (chunk : Chunk). nat_lt (chunk_place chunk) c.args.place.now) _ _ c.partition_point.ensures.partitioned parted (λ a r q h. search rules) in
    ltb-true _ _ (point.0 k d low high)

pub returns-clause-after : goal.returns-clause-after
returns-clause-after c k d low high =
    let parted = IsPartitionedBy-ltb chunk_place c.args.items.now c.args.place.now c.requires in
    let point = IsPartitionPoint-from_clause (λ (chunk : Chunk). nat_lt (chunk_place chunk) c.args.place.now) _ _ c.partition_point.ensures.partitioned parted (λ a r q h. search rules) in
    not_less _ _ (point.1 k d low high)
