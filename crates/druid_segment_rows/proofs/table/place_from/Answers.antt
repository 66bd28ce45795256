use Rattle.std.proofs.Common.{ltb, ltb-true, ltb-false, arith, rules}
use Rattle.std.proofs.lemmas.List.Sorted.{IsPartitionPoint-from_clause, IsPartitionedBy-ltb}
use Rattle.druid_segment_rows.proofs.table.place_from.Goals as goal

pub returns-clause-below : goal.returns-clause-below
returns-clause-below c =
    let parted = IsPartitionedBy-ltb (λ t. t) _ c.args.from c.requires in
    let point = IsPartitionPoint-from_clause (λ t. ltb t c.args.from) _ _ c.partition_point.ensures.partitioned parted (λ a r q k. search rules) in
    λ place h. ltb-true _ _ (point.0 place 0 (omega arith) h)

pub returns-clause-from : goal.returns-clause-from
returns-clause-from c =
    let parted = IsPartitionedBy-ltb (λ t. t) _ c.args.from c.requires in
    let point = IsPartitionPoint-from_clause (λ t. ltb t c.args.from) _ _ c.partition_point.ensures.partitioned parted (λ a r q k. search rules) in
    λ place from within. ltb-false _ _ (point.1 place 0 from within)
