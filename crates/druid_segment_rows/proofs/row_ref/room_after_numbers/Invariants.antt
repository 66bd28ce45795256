use Rattle.std.proofs.Common.{◌≡◌, ◌+◌, take}
use Rattle.std.specs.List.{sum_by}
use Rattle.druid_segment_rows.specs.Rows.{AreWords}
use Rattle.druid_segment_rows.specs.Segment.{number_value_length}
use Rattle.druid_segment_rows.proofs.row_ref.room_after_numbers.Given as goal

abbrev pub invariant-loop-value : goal.invariant-loop-value
invariant-loop-value l = record {
  room : l.room + sum_by number_value_length (take l.value-index l.values) ≡ l.initial.room;
  words : AreWords (take l.value-index l.values);
}
