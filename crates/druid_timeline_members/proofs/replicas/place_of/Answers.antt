use Rattle.std.proofs.Common.{arith}
use Rattle.druid_timeline_members.proofs.PairLemmas.{absent_between, rising-insert}
use Rattle.druid_timeline_members.proofs.replicas.place_of.Goals as goal

pub returns-then-other-node-2-clause-absent : goal.returns-then-other-node-2-clause-absent
returns-then-other-node-2-clause-absent c =
    absent_between c.args.nodes.now c.loop-i.i c.args.node c.requires c.loop-i.invariant (λ _. c.if-other-node-2.true)

pub returns-then-other-node-2-clause-rising : goal.returns-then-other-node-2-clause-rising
returns-then-other-node-2-clause-rising c =
    rising-insert c.args.nodes.now c.loop-i.i c.args.node c.requires (omega arith) c.loop-i.invariant (λ _. c.if-other-node-2.true)

pub returns-clause-absent : goal.returns-clause-absent
returns-clause-absent c =
    absent_between c.args.nodes.now c.loop-i.i c.args.node c.requires c.loop-i.invariant (λ l. absurd (omega arith))
