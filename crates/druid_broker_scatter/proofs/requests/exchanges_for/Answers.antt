use Rattle.std.proofs.Common.{◌≡◌, map, sym, subst, rules, All}
use Rattle.std.proofs.lemmas.List.Elements.{All-push}
use Rattle.std.proofs.lemmas.Map.Iter.{iter_end}
use Rattle.druid_broker_scatter.proofs.RequestLemmas.{asks_all, asks_more, is_round}
use Rattle.druid_broker_scatter.proofs.requests.exchanges_for.Goals as goal

pub loop-node-preserved : goal.loop-node-preserved
loop-node-preserved c = record {
  asks = asks_more (λ x. (x.node, x.sub.asked)) c.loop-node.exchanges.items c.push.new.self.items c.in_ok-exchange_for.field-0 c.loop-node.yielded c.in-Some.node c.in-Some.asked c.in_ok-push.ensures.items
      c.in_ok-exchange_for.ensures.node c.in_ok-exchange_for.ensures.asked c.loop-node.invariant.asks;
  of_query = subst (λ (xs : _). All (λ x. x.sub.query ≡ c.args.query.now) xs) (sym c.in_ok-push.ensures.items)
      (All-push (λ x. x.sub.query ≡ c.args.query.now) c.loop-node.exchanges.items c.in_ok-exchange_for.field-0 c.loop-node.invariant.of_query c.in_ok-exchange_for.ensures.of_query);
}

pub returns-clause-round : goal.returns-clause-round
returns-clause-round c =
    let all : map (λ e. e) c.loop-node.yielded ≡ c.in_ok-slices.slices.entries = search (rules, iter_end) in
    is_round c.args.round c.args.waiting.now c.in_ok-slices.slices _ c.len.ensures.ordered c.in_ok-slices.ensures.wanted c.in_ok-slices.ensures.none_empty
    (asks_all _ c.loop-node.yielded c.in_ok-slices.slices.entries all c.loop-node.invariant.asks)
