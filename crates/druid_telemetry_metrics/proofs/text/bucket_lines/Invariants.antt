use Rattle.std.proofs.Common.{◌≡◌, ◌++◌, drop}
use Rattle.druid_telemetry_metrics.specs.Text.{bucket_lines, counted}
use Rattle.druid_telemetry_metrics.proofs.text.bucket_lines.Given as goal

abbrev pub invariant-loop-bucket : goal.invariant-loop-bucket
invariant-loop-bucket l =
    (l.text.items ++ bucket_lines l.name l.labels l.count (drop l.bucket-index l.buckets) ≡ bucket_lines l.name l.labels 0 l.buckets)
    × (counted l.count (drop l.bucket-index l.buckets) ≡ counted 0 l.buckets)
