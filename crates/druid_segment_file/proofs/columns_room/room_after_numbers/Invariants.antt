use Rattle.std.proofs.Common.{◌≡◌, ◌+◌, take}
use Rattle.std.specs.List.{sum_by}
use Rattle.druid_segment_rows.specs.Segment.{number_value_length}
use Rattle.druid_segment_file.proofs.columns_room.room_after_numbers.Given as goal

abbrev pub invariant-loop-row : goal.invariant-loop-row
invariant-loop-row l =
    l.room + sum_by number_value_length (take l.row l.numbers) ≡ l.initial.room
