use Rattle.std.proofs.Common.{◌<◌, arith, length}
use Rattle.druid_time.proofs.MergeLemmas.{IsMerged-first, IsMerged-touching, IsMerged-beyond, starts_after_first, starts_after}
use Rattle.druid_time.proofs.interval_set.merge_sorted.Goals as goal
use Rattle.druid_time.proofs.interval_set.merge_sorted.Goals.{then-le, else-le+in_ok-push}

pub loop-next-init : goal.loop-next-init
loop-next-init c =
    rw c.new-done.ensures.items (IsMerged-first c.in-Some.first.now c.in-Some.rest.now c.end.ensures.valid (starts_after_first c.args.sorted.now c.in-Some.first.now c.in-Some.rest.now c.in-Some.ensures.cases.0 c.requires))

pub loop-next-preserved : goal.loop-next-preserved
loop-next-preserved c =
    let here : c.loop-next.next-index < length c.in-Some.rest.now = omega arith in
    elim c.if-le.branch [
      | then-le w ↦
          rw (w.done-is, w.last-is, w.extended_to-last.ensures)
          (IsMerged-touching c.in-Some.first.now c.in-Some.rest.now c.loop-next.next-index c.loop-next.done.items c.loop-next.last c.next-item.result c.start.result c.end-in-loop-next.result c.le.result c.loop-next.invariant here c.next-item.is c.start.ensures.valid c.start.ensures.value c.end-in-loop-next.ensures.value c.le.ensures w.if-le.true)
      | else-le+in_ok-push w ↦
          rw (w.done-is, w.last-is, w.in_ok-push.ensures.items)
          (IsMerged-beyond c.in-Some.first.now c.in-Some.rest.now c.loop-next.next-index c.loop-next.done.items c.loop-next.last c.next-item.result c.start.result c.end-in-loop-next.result c.le.result c.loop-next.invariant here c.next-item.is c.start.ensures.valid c.start.ensures.value c.end-in-loop-next.ensures.value c.le.ensures w.if-le.false
          (starts_after c.args.sorted.now c.in-Some.first.now c.in-Some.rest.now c.loop-next.next-index c.next-item.result c.in-Some.ensures.cases.0 c.requires here c.next-item.is))
    ]
