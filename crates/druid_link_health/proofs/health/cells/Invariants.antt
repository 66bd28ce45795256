-- So many cells are there.
use Rattle.std.proofs.Common.{◌≡◌, vec_len}
use Rattle.druid_link_health.proofs.health.cells.Given as goal

abbrev pub invariant-loop : goal.invariant-loop
invariant-loop l = vec_len l.cells ≡ l.counter
