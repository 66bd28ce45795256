use Rattle.std.proofs.Common.{sym, ◌∙◌}
use Rattle.std.proofs.lemmas.Result.{IfErr-weaker}
use Rattle.druid_node.proofs.SeenLemmas.{cover_as}
use Rattle.druid_node.proofs.data_node.DataNode.place_tombstone.Goals as goal

pub returns-clause-err : goal.returns-clause-err
returns-clause-err g c =
    IfErr-weaker c.place_tombstone.result _ _
    (λ fault h. cover_as _ c.args.id g.I.Incarnation.number _ c.args.seen.now fault (sym c.partition.ensures.value ∙ c.if-partition-ne0.false) h)
    c.place_tombstone.ensures.err
