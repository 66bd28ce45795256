use Rattle.std.proofs.Common.{◌≡◌, take}
use Rattle.druid_sync_pages.proofs.parts.copies_of_pages.Given as goal

abbrev pub invariant-loop-page : goal.invariant-loop-page
invariant-loop-page l = l.copies.items ≡ take l.page-index l.pages
