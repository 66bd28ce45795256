use Rattle.std.proofs.Common.{subst}
use Rattle.std.specs.Map.Iter.{deref_pair}
use Rattle.std.proofs.lemmas.Map.Iter.{rest_more, rest_all}
use Rattle.druid_timeline_members.proofs.CountLemmas.{Entries}
use Rattle.druid_timeline_members.proofs.CompleteLemmas.{IsCoreBeside, beside-next, beside-bound, beside-end}
use Rattle.druid_timeline_members.proofs.members.core_without.Goals as goal

pub loop-partition-preserved : goal.loop-partition-preserved
loop-partition-preserved c =
    let e = rest_more deref_pair c.loop-partition.partition-iterator c.next.new.self c.next.result (c.in-Some.partition, c.in-Some.slot) c.in-Some.is c.next.ensures.steps in
    let h = subst (λ (rest : Entries). IsCoreBeside c.args.slots.now.entries rest c.args.at c.args.node c.loop-partition.core) e c.loop-partition.invariant in
    beside-next c.args.slots.now.entries c.next.new.self (c.in-Some.partition.now, c.in-Some.slot.now) c.args.at c.args.node c.loop-partition.core c.core_beside.result c.max-core.result c.core_beside.ensures.most c.core_beside.ensures.some c.max-core.ensures h

pub returns-then-core-bound : goal.returns-then-core-bound
returns-then-core-bound c left removes =
    let e = rest_more deref_pair c.loop-partition.partition-iterator c.next.new.self c.next.result (c.in-Some.partition, c.in-Some.slot) c.in-Some.is c.next.ensures.steps in
    let h = subst (λ (rest : Entries). IsCoreBeside c.args.slots.now.entries rest c.args.at c.args.node c.loop-partition.core) e c.loop-partition.invariant in
    beside-bound c.args.slots.now.entries c.next.new.self left c.args.at c.args.node c.max-core.result c.args.bound removes c.requires c.if-core-bound.true
    (beside-next c.args.slots.now.entries c.next.new.self (c.in-Some.partition.now, c.in-Some.slot.now) c.args.at c.args.node c.loop-partition.core c.core_beside.result c.max-core.result c.core_beside.ensures.most c.core_beside.ensures.some c.max-core.ensures h)

pub returns : goal.returns
returns c left removes =
    let e = rest_all deref_pair c.loop-partition.partition-iterator c.next.new.self c.next.result c.in-None.is c.next.ensures.steps in
    beside-end c.args.slots.now.entries left c.args.at c.args.node c.loop-partition.core removes
    (subst (λ (rest : Entries). IsCoreBeside c.args.slots.now.entries rest c.args.at c.args.node c.loop-partition.core) e c.loop-partition.invariant)
