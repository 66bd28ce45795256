use Rattle.std.proofs.Common.{List, ◌++◌}
use Rattle.druid_partial.specs.Groups.{Group}
use Rattle.druid_partial_scan.specs.Scans.{AreUpto, AreEntries, ComeBefore, bucket_at, groups_by}
use Rattle.druid_partial_scan.proofs.scan.Scan.tally_sparse.Given as goal

abbrev pub invariant-loop-row : goal.invariant-loop-row
invariant-loop-row l = record {
  are : AreEntries l.self (bucket_at l.self l.from) l.cells.entries;
  upto : (groups : List Group) → ComeBefore l.self groups l.from l.to → AreUpto l.self l.interval l.from groups
      → AreUpto l.self l.interval l.row (groups ++ groups_by l.self l.cells.entries);
}
