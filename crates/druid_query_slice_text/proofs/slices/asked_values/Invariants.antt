use Rattle.std.proofs.Common.{◌≡◌, map, take}
use Rattle.serde_json.specs.View.{view}
use Rattle.druid_query.specs.Asked.{asked_data}
use Rattle.druid_query_slice_text.proofs.slices.asked_values.Given as goal

abbrev pub invariant-loop-piece : goal.invariant-loop-piece
invariant-loop-piece l = map view l.all.items ≡ map asked_data (take l.piece-index l.asked)
