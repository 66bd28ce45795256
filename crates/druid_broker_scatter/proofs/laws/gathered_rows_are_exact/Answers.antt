use Rattle.druid_broker_scatter.proofs.ExactLemmas.{exact}
use Rattle.druid_broker_scatter.proofs.laws.gathered_rows_are_exact.Goals as goal

pub returns : goal.returns
returns c order inventory query pairs exchanges missing groups segments held sees plan gathered served holding seen honest =
    exact order inventory query pairs exchanges missing groups segments held sees plan gathered served holding seen honest
