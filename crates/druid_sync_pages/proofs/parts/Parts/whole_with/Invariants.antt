use Rattle.std.proofs.Common.{◌≡◌, Some, take}
use Rattle.druid_sync_pages.specs.Assembly.{with_page, whole_of}
use Rattle.druid_sync_pages.proofs.parts.Parts.whole_with.Given as goal

abbrev pub invariant-loop-place : goal.invariant-loop-place
invariant-loop-place l = whole_of (take l.place (with_page l.fn.self l.page l.segments).pages) ≡ Some l.set.items
