use Rattle.std.proofs.Common.{◌≡◌, ◌++◌, drop}
use Rattle.druid_sync_history.proofs.history.History.changes_from.Given as goal

abbrev pub invariant-loop-place : goal.invariant-loop-place
invariant-loop-place l = l.copies.items ++ drop l.place l.self.changes ≡ drop l.first l.self.changes
