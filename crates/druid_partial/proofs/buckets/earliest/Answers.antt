use Rattle.std.proofs.Common.{rules}
use Rattle.druid_partial.proofs.BucketLemmas.{not_none, query_asks}
use Rattle.druid_partial.proofs.buckets.earliest.Goals as goal

pub unreachable-requires : goal.unreachable-requires
unreachable-requires c = not_none c.args.query.now.intervals (query_asks c.args.query.now c.kind.ensures.read) (search rules)
