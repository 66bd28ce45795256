use Rattle.std.proofs.Common.{◌≡◌, ◌+◌, All, take}
use Rattle.std.specs.List.{sum_by}
use Rattle.druid_segment_rows.specs.Rows.{HasWords}
use Rattle.druid_segment_rows.specs.Segment.{row_length}
use Rattle.druid_segment_rows.proofs.segment.room_after_rows.Given as goal

abbrev pub invariant-loop-row : goal.invariant-loop-row
invariant-loop-row l = record {
  room : l.room + sum_by row_length (take l.row-index l.rows) ≡ l.initial.room;
  words : All HasWords (take l.row-index l.rows);
}
