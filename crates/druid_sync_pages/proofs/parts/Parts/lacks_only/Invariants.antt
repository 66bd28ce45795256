use Rattle.std.proofs.Common.{◌≢◌, ◌<◌, ℕ, Some, None, slice_get}
use Rattle.druid_sync_pages.proofs.parts.Parts.lacks_only.Given as goal

abbrev pub invariant-loop-place : goal.invariant-loop-place
invariant-loop-place l = (i : ℕ) → i < l.place → i ≢ l.page → slice_get l.fn.self.pages i ≢ Some None
