use Rattle.std.proofs.Common.{◌≡◌, ◌+◌, take}
use Rattle.std.specs.List.{sum_by}
use Rattle.druid_segment_file.proofs.ColumnRoomLemmas.{value_length}
use Rattle.druid_segment_file.proofs.columns_room.room_after_values.Given as goal

abbrev pub invariant-loop-place : goal.invariant-loop-place
invariant-loop-place l =
    l.room + sum_by value_length (take l.place l.texts) ≡ l.initial.room
