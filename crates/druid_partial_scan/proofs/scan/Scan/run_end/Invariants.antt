use Rattle.std.proofs.Common.{◌≡◌, ◌<◌, ◌≤◌, ◌-◌}
use Rattle.druid_partial_scan.specs.Scans.{bucket_at}
use Rattle.druid_partial_scan.proofs.scan.Scan.run_end.Given as goal

abbrev pub invariant-loop-step : goal.invariant-loop-step
invariant-loop-step l = record {
  after : l.from ≤ l.low;
  inside : l.low < l.end;
  some : 1 ≤ l.step;
  same : bucket_at l.self l.low ≡ l.bucket;
}

abbrev pub decreases-loop-step : goal.decreases-loop-step
decreases-loop-step l = l.end - l.low
