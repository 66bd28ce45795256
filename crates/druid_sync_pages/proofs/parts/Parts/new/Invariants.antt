use Rattle.std.proofs.Common.{◌≡◌, ◌≤◌, replicate, None, vec_len, vec_capacity}
use Rattle.druid_sync_pages.proofs.parts.Parts.new.Given as goal

abbrev pub invariant-loop : goal.invariant-loop
invariant-loop l = (l.pages.items ≡ replicate l.counter None) × (vec_len l.pages ≡ l.counter) × (l.of ≤ vec_capacity l.pages)
