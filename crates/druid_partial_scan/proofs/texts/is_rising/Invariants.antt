use Rattle.std.proofs.Common.{◌≤◌, take}
use Rattle.druid_partial_scan.specs.Slices.{borrowed_texts, IsRising}
use Rattle.druid_partial_scan.proofs.texts.is_rising.Given as goal

abbrev pub invariant-loop-place : goal.invariant-loop-place
invariant-loop-place l = record {
  first : 1 ≤ l.place;
  rising : IsRising (borrowed_texts (take l.place l.texts));
}
