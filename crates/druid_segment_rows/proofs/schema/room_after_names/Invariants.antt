use Rattle.std.proofs.Common.{◌≡◌, ◌+◌, take}
use Rattle.std.specs.List.{sum_by}
use Rattle.druid_segment_rows.proofs.LengthLemmas.{name_length}
use Rattle.druid_segment_rows.proofs.schema.room_after_names.Given as goal

abbrev pub invariant-loop-name : goal.invariant-loop-name
invariant-loop-name l = l.room + sum_by name_length (take l.name-index l.names) ≡ l.initial.room
