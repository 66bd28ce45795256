use Rattle.std.proofs.Common.{◌<◌, ◌+◌, ℕ}
use Rattle.druid_sync_pages.specs.Assembly.{with_page}
use Rattle.druid_sync_pages.proofs.OrderLemmas.{Seam}
use Rattle.druid_sync_pages.proofs.parts.Parts.rises_with.Given as goal

abbrev pub invariant-loop-place : goal.invariant-loop-place
invariant-loop-place l = (i : ℕ) → i + 1 < l.place → Seam (with_page l.fn.self l.page l.segments).pages i
