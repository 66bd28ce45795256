use Rattle.std.proofs.Common.{◌≡◌, ◌+◌, List, length, take}
use Rattle.std.specs.List.{flat_map}
use Rattle.druid_segment_file.specs.ColumnBytes.{Coded, AreCoded, dimension}
use Rattle.druid_segment_file.proofs.columns_room.room_after_dimensions.Given as goal

abbrev pub invariant-loop-place : goal.invariant-loop-place
invariant-loop-place l =
    (dimensions : List Coded) → AreCoded l.segment dimensions → l.room + length (flat_map dimension (take l.place dimensions)) ≡ l.initial.room
