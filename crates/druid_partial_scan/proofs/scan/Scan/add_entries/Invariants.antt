use Rattle.std.proofs.Common.{◌≡◌, ◌++◌}
use Rattle.std.specs.BTreeMap.{btree_map_len}
use Rattle.druid_partial_scan.specs.Scans.{AreKept, groups_by}
use Rattle.druid_partial_scan.proofs.scan.Scan.add_entries.Given as goal

abbrev pub invariant-loop-cell : goal.invariant-loop-cell
invariant-loop-cell l = record {
  whole : l.groups.items ++ groups_by l.self l.cells.entries ≡ l.initial.groups.items ++ groups_by l.self l.initial.cells.entries;
  kept : AreKept l.self l.cells.entries;
}

abbrev pub decreases-loop-cell : goal.decreases-loop-cell
decreases-loop-cell l = btree_map_len l.cells
