use Rattle.std.proofs.lemmas.Result.{IfErr-weaker}
use Rattle.druid_node.proofs.SeenLemmas.{drop_as}
use Rattle.druid_node.proofs.data_node.DataNode.drop_segment.Goals as goal

pub returns-clause-err : goal.returns-clause-err
returns-clause-err g c = IfErr-weaker c.drop_segment.result _ _ (λ fault h. drop_as _ _ g.I.Incarnation.number _ c.args.seen.now fault h) c.drop_segment.ensures.err
