use Rattle.std.proofs.Common.{◌≤◌, ◌-◌}
use Rattle.druid_partial_scan.specs.Scans.{AreUpto, AreApart}
use Rattle.druid_partial_scan.proofs.scan.Scan.tally.Given as goal

abbrev pub invariant-loop-at : goal.invariant-loop-at
invariant-loop-at l = record {
  inside : l.at ≤ l.end;
  upto : AreUpto l.self l.interval l.at l.groups.items;
  apart : AreApart l.self l.start l.at l.end;
}

abbrev pub decreases-loop-at : goal.decreases-loop-at
decreases-loop-at l = l.end - l.at
