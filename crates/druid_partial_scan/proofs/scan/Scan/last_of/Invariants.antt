use Rattle.std.proofs.Common.{◌≡◌, ◌≢◌, ◌<◌, ◌≤◌, ◌-◌}
use Rattle.druid_partial_scan.specs.Scans.{bucket_at}
use Rattle.druid_partial_scan.proofs.scan.Scan.last_of.Given as goal

abbrev pub invariant-loop-high : goal.invariant-loop-high
invariant-loop-high l = record {
  after : l.from ≤ l.low;
  order : l.low < l.high;
  inside : l.high ≤ l.to;
  same : bucket_at l.self l.low ≡ l.bucket;
  next : l.high < l.to → bucket_at l.self l.high ≢ l.bucket;
}

abbrev pub decreases-loop-high : goal.decreases-loop-high
decreases-loop-high l = l.high - l.low
