use Rattle.std.proofs.Common.{◌-◌, ◌≤◌, length, string_bytes}
use Rattle.std.specs.List.Sorted.{IsStrictlySortedBy}
use Rattle.std.specs.Ordering.{nat_cmp}
use Rattle.std.specs.Cmp.Lexicographic.{slice_cmp}
use Rattle.druid_partial_scan.proofs.RankLemmas.{AreBelow, AreAbove}
use Rattle.druid_partial_scan.proofs.code_filter.code_of.Given as goal

abbrev pub invariant-loop-low : goal.invariant-loop-low
invariant-loop-low l = record {
  inside : l.high ≤ length l.texts;
  halves : IsStrictlySortedBy (slice_cmp nat_cmp) l.texts → AreBelow l.texts (string_bytes l.text) l.low × AreAbove l.texts (string_bytes l.text) l.high;
}

abbrev pub decreases-loop-low : goal.decreases-loop-low
decreases-loop-low l = l.high - l.low
