use Rattle.druid_time.proofs.BucketLemmas.{bucket_starts}
use Rattle.druid_time.proofs.laws.buckets_count_from_1970.Goals as goal

pub returns : goal.returns
returns c = bucket_starts
