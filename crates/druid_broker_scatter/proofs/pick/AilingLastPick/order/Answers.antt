-- A turn, and a parting into two groups.
use Rattle.druid_broker_scatter.proofs.AilingLemmas.{put_last_permutes}
use Rattle.druid_broker_scatter.proofs.pick.AilingLastPick.order.Goals as goal

pub returns-clause-permuted : goal.returns-clause-permuted
returns-clause-permuted c =
    put_last_permutes c.self.inside.ailing c.args.nodes.now c.order.new.nodes c.put_last.new.nodes c.order.ensures.permuted c.put_last.ensures
