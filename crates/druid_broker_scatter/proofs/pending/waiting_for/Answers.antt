use Rattle.std.proofs.Common.{All, sym, subst, arith}
use Rattle.std.specs.List.Sorted.{IsStrictlySortedBy}
use Rattle.std.proofs.lemmas.List.Elements.{All-push}
use Rattle.druid_broker_scatter.specs.Plan.{asked_of, place_cmp}
use Rattle.druid_broker_scatter.specs.Pending.{IsOrdered, AreOrdered}
use Rattle.druid_broker_scatter.proofs.WaitLemmas.{all_ordered, all_waiting, waits_more, is_ordered}
use Rattle.druid_broker_scatter.proofs.pending.waiting_for.Goals as goal

pub loop-pair-preserved : goal.loop-pair-preserved
loop-pair-preserved g c =
    let order = g.P.Pick.orders c.args.pick.now c.args.turn in
    let pairs = c.pairs-pairs.result.now in
    let w = c.in_ok-of.field-0 in
    record {
      whole = waits_more pairs c.loop-pair.waits.items c.push.new.self.items c.loop-pair.pair-index c.pair-item.result w (omega arith) c.pair-item.is c.in_ok-push.ensures.items
          c.in_ok-of.ensures.asked c.loop-pair.invariant.whole;
      each = subst (λ (ws : _). All (IsOrdered order pairs) ws) (sym c.in_ok-push.ensures.items)
          (All-push (IsOrdered order pairs) c.loop-pair.waits.items w c.loop-pair.invariant.each
          (is_ordered order pairs c.loop-pair.pair-index c.pair-item.result w (omega arith) c.pair-item.is c.in_ok-of.ensures.asked c.in_ok-of.ensures.ordered c.in_ok-of.ensures.permuted
          c.in_ok-of.ensures.once));
    }

pub returns : goal.returns
returns g c =
    let order = g.P.Pick.orders c.args.pick.now c.args.turn in
    let pairs = c.pairs-pairs.result.now in
    subst (λ (ps : _). AreOrdered order ps c.loop-pair.waits.items) c.pairs-pairs.ensures.value
    (all_ordered order pairs c.loop-pair.waits.items (subst (λ (ps : _). IsStrictlySortedBy place_cmp (asked_of ps)) (sym c.pairs-pairs.ensures.value) c.pairs-pairs.ensures.ordered)
    (all_waiting pairs c.loop-pair.waits.items c.loop-pair.pair-index (omega arith) c.loop-pair.invariant.whole) c.loop-pair.invariant.each)
