use Rattle.std.proofs.Common.{◌≡◌, ◌++◌, All}
use Rattle.std.specs.BTreeMap.{btree_map_len}
use Rattle.druid_partial.specs.Groups.{Group, AreWords}
use Rattle.druid_partial_scan.specs.Entries.{groups_of}
use Rattle.druid_partial_scan.proofs.scan.add_found.Given as goal

abbrev pub invariant-loop-key : goal.invariant-loop-key
invariant-loop-key l = record {
  whole : l.groups.items ++ groups_of l.found.entries ≡ l.initial.groups.items ++ groups_of l.initial.found.entries;
  words : All (λ (g : Group). AreWords g.numbers) (groups_of l.found.entries);
}

abbrev pub decreases-loop-key : goal.decreases-loop-key
decreases-loop-key l = btree_map_len l.found
