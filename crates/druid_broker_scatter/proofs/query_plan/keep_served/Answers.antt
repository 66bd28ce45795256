use Rattle.std.proofs.Common.{rules}
use Rattle.std.proofs.lemmas.Fn.{filter_same}
use Rattle.druid_broker_scatter.specs.Plan.{Pair}
use Rattle.druid_broker_scatter.specs.Planned.{has_nodes}
use Rattle.druid_broker_scatter.proofs.query_plan.keep_served.Goals as goal

pub returns : goal.returns
returns c = filter_same _ (λ (p : Pair). has_nodes p) _ (λ x b f' k. search rules) _ _ c.retain.ensures.filtered
