use Rattle.std.proofs.Common.{◌≡◌, All, map}
use Rattle.druid_broker_scatter.specs.Pending.{Ask}
use Rattle.druid_broker_scatter.proofs.requests.exchanges_for.Given as goal

abbrev pub invariant-loop-node : goal.invariant-loop-node
invariant-loop-node l = record {
  asks : map {B = Ask} (λ x. (x.node, x.sub.asked)) l.exchanges.items ≡ map {B = Ask} (λ e. (e.0, e.1.items)) l.yielded;
  of_query : All (λ x. x.sub.query ≡ l.query) l.exchanges.items;
}
