use Rattle.druid_node.proofs.SeenLemmas.{load_as}
use Rattle.druid_node.proofs.data_node.DataNode.load_segment.Goals as goal

pub returns-in-Err-clause-err : goal.returns-in-Err-clause-err
returns-in-Err-clause-err g c = load_as _ _ g.I.Incarnation.number _ c.args.seen.now c.in-Err.fault c.in-Err.ensures.err
