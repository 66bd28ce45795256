use Rattle.std.proofs.Common.{map, sym, ◌∙◌, arith}
use Rattle.std.specs.Arc.{arc_value}
use Rattle.std.proofs.lemmas.Bool.{false≢true}
use Rattle.std.proofs.lemmas.List.{length-map}
use Rattle.druid_inventory.proofs.JoinLemmas.{agree_more, agree_all}
use Rattle.druid_inventory.proofs.join.first_conflict.Goals as goal

pub loop-node-preserved : goal.loop-node-preserved
loop-node-preserved c =
    agree_more (map arc_value c.args.a.now) (map arc_value c.args.b.now) c.loop-node.node c.entry_of.result.now c.entry_of-in-loop-node.result.now
    c.loop-node.invariant c.entry_of.ensures c.entry_of-in-loop-node.ensures
    (λ conflict. false≢true (sym c.if-do_conflict.false ∙ c.do_conflict.ensures.1 conflict))

pub returns : goal.returns
returns c =
    let long = length-map c.args.a.now arc_value in
    agree_all (map arc_value c.args.a.now) (map arc_value c.args.b.now) c.loop-node.node (omega arith) c.loop-node.invariant
