use Rattle.std.proofs.Common.{◌≡◌, ◌+◌, take}
use Rattle.std.specs.List.{sum_by}
use Rattle.druid_segment_rows.proofs.LengthLemmas.{text_length_by}
use Rattle.druid_segment_rows.proofs.row_ref.room_after_texts.Given as goal

abbrev pub invariant-loop-value : goal.invariant-loop-value
invariant-loop-value g l = l.room + sum_by (text_length_by g.T.AsStr.text) (take l.value-index l.values) ≡ l.initial.room
