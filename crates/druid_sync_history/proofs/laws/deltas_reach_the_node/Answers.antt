use Rattle.druid_sync_history.proofs.FollowLemmas.{delta_reaches}
use Rattle.druid_sync_history.proofs.laws.deltas_reach_the_node.Goals as goal

pub returns : goal.returns
returns c = delta_reaches
