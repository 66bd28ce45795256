-- The part from the earlier place to the node's comes back with its last first.
use Rattle.druid_broker_scatter.proofs.AilingLemmas.{moved}
use Rattle.druid_broker_scatter.proofs.pick.move_forward.Goals as goal

pub returns : goal.returns
returns c front passed after node e l m = moved front passed after node c.args.nodes.now c.rotate_right.new.self c.args.to c.args.from e l m c.rotate_right.ensures.after
