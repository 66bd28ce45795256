use Rattle.std.proofs.Common.{◌≡◌, ◌+◌, subst, arith}
use Rattle.std.specs.Map.Iter.{deref_pair}
use Rattle.std.proofs.lemmas.Map.Iter.{rest_more, rest_all}
use Rattle.druid_timeline_members.proofs.CountLemmas.{Entries, counted, counted-kept, counted-more, kept_below-most}
use Rattle.druid_timeline_members.proofs.members.count_below.Goals as goal

pub loop-partition-preserved-then-partition-bound : goal.loop-partition-preserved-then-partition-bound
loop-partition-preserved-then-partition-bound c =
    let e = rest_more deref_pair c.loop-partition.partition-iterator c.next.new.self c.next.result (c.in-Some.partition, c.in-Some.field-0-1) c.in-Some.is c.next.ensures.steps in
    let h = subst (λ (rest : Entries). c.loop-partition.count + counted c.args.bound rest ≡ counted c.args.bound c.args.slots.now.entries) e c.loop-partition.invariant in
    let more = counted-more (c.in-Some.partition.now, c.in-Some.field-0-1.now) c.next.new.self c.args.bound c.if-partition-bound.true in
    let all = counted-kept c.args.slots.now c.iter-partition-items.ensures.ordered c.args.bound in
    let most = kept_below-most c.args.slots.now c.args.bound in
    omega (arith, h, more, all, most, c.saturating_add-count.ensures, c.ranges.bound.fits)

pub returns : goal.returns
returns c =
    let e = rest_all deref_pair c.loop-partition.partition-iterator c.next.new.self c.next.result c.in-None.is c.next.ensures.steps in
    let h = subst (λ (rest : Entries). c.loop-partition.count + counted c.args.bound rest ≡ counted c.args.bound c.args.slots.now.entries) e c.loop-partition.invariant in
    let all = counted-kept c.args.slots.now c.iter-partition-items.ensures.ordered c.args.bound in
    omega (arith, h, all)
