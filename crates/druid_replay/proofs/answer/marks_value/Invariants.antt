use Rattle.std.proofs.Common.{◌≡◌, map, take}
use Rattle.serde_json.specs.View.{view}
use Rattle.druid_segment_text.specs.Json.{mark_data}
use Rattle.druid_replay.proofs.answer.marks_value.Given as goal

abbrev pub invariant-loop-mark : goal.invariant-loop-mark
invariant-loop-mark l = map view l.values.items ≡ map mark_data (take l.mark-index l.marks)
