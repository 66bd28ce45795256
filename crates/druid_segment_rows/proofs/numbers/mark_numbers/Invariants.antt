use Rattle.std.proofs.Common.{◌≡◌, ℤ, List, length}
use Rattle.druid_segment_rows.specs.Metrics.{unless_null}
use Rattle.druid_segment_rows.proofs.numbers.mark_numbers.Given as goal

abbrev pub invariant-loop : goal.invariant-loop
invariant-loop l = record {
  same : (numbers : List ℤ) → unless_null numbers l.nulls.items ≡ unless_null numbers l.initial.nulls.items;
  long : length l.nulls.items ≡ l.counter;
}
