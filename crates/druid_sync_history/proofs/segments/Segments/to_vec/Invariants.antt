use Rattle.std.proofs.Common.{◌≡◌, ◌++◌}
use Rattle.druid_sync_history.proofs.segments.Segments.to_vec.Given as goal

abbrev pub invariant-loop-segment : goal.invariant-loop-segment
invariant-loop-segment l = l.copies.items ++ l.segment-iterator ≡ l.self
