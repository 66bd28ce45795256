use Rattle.druid_broker_scatter.specs.Order.{turned}
use Rattle.druid_broker_scatter.proofs.AilingLemmas.{none_ailing}
use Rattle.druid_broker_scatter.proofs.laws.none_ailing_is_rotate.Goals as goal

pub returns : goal.returns
returns c turn nodes = none_ailing (turned turn nodes)
