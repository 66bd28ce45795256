-- A link that was hastened is the same link.
use Rattle.std.proofs.Common.{◌≡◌}
use Rattle.druid_broker.proofs.query_response.hasten_all.Given as goal

abbrev pub invariant-loop-link : goal.invariant-loop-link
invariant-loop-link g l = l.links ≡ l.initial.links
