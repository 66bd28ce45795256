use Rattle.std.proofs.Common.{map, rules}
use Rattle.std.proofs.lemmas.Fn.{filter_same}
use Rattle.druid_broker_scatter.specs.Exchanges.{missed_in}
use Rattle.druid_broker_scatter.specs.Pending.{PendingSlice, stays}
use Rattle.druid_broker_scatter.proofs.pending.keep_missed.Goals as goal

pub returns : goal.returns
returns c = filter_same _ (λ (w : PendingSlice). stays c.args.round (map missed_in c.args.exchanges.now) w) _ (λ x b f' k. search rules) _ _ c.retain.ensures.filtered
