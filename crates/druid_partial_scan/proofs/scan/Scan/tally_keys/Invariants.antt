use Rattle.std.proofs.Common.{List, ◌++◌}
use Rattle.druid_partial.specs.Groups.{Group}
use Rattle.druid_partial_scan.specs.Entries.{groups_of}
use Rattle.druid_partial_scan.specs.Scans.{AreUpto, ComeBefore}
use Rattle.druid_partial_scan.proofs.scan.Scan.tally_keys.Given as goal

abbrev pub invariant-loop-row : goal.invariant-loop-row
invariant-loop-row l = (groups : List Group) → ComeBefore l.self groups l.from l.to → AreUpto l.self l.interval l.from groups
    → AreUpto l.self l.interval l.row (groups ++ groups_of l.found.entries)
