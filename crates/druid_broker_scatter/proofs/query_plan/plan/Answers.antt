use Rattle.std.proofs.Common.{◌∙◌, List, All, map, sym, subst}
use Rattle.std.specs.List.Sorted.{IsStrictlySortedBy}
use Rattle.std.proofs.lemmas.Bool.{false≢true}
use Rattle.druid_time.specs.Extent.{AnyHas, SameInstants}
use Rattle.druid_timeline.specs.Holding.{members_of}
use Rattle.druid_timeline.specs.Pieces.{ArePiecesIn, ArePartitions, shown_of}
use Rattle.druid_inventory.specs.Sources.{HasSource}
use Rattle.druid_broker_scatter.specs.Plan.{Pair, asked_of, place_cmp, IsPlanOf}
use Rattle.druid_broker_scatter.specs.Planned.{has_nodes}
use Rattle.druid_broker_scatter.proofs.PlanLemmas.{nothing_sorted, nothing_planned, pairs_sorted, filter_sorted, planned}
use Rattle.druid_broker_scatter.proofs.query_plan.plan.Goals as goal

pub new-requires-in_default : goal.new-requires-in_default
new-requires-in_default c = nothing_sorted c.new.result.items c.new.ensures.items

pub returns-in_default : goal.returns-in_default
returns-in_default c = record {
  ok = nothing_planned c.args.inventory.now c.args.query.now c.new-in_default.result
      (λ h. false≢true (c.in_default.ensures.some.1 (subst (HasSource c.args.inventory.now) (sym c.source-source.ensures) h))) (c.new-in_default.ensures ∙ c.new.ensures.items);
}

pub new-requires-2 : goal.new-requires-2
new-requires-2 c =
    let held = c.in-Some.timeline.now.held in
    subst (λ (ps : List Pair). IsStrictlySortedBy place_cmp (asked_of ps)) (sym c.keep_served.ensures)
    (filter_sorted has_nodes c.in_ok-pairs.pairs.items
    (pairs_sorted c.source-source.result.now held (AnyHas c.in_ok-set.set) c.deref.result.now c.in_ok-pairs.pairs.items c.in_ok-pairs.ensures.asked
    (subst (λ (ts : _). ArePiecesIn (AnyHas c.in_ok-set.set) held (map shown_of ts)) (sym c.deref.ensures.value) c.in_ok-pieces.ensures.pieces)
    (subst (λ (ts : _). All (λ t. ArePartitions (members_of held t.group) t.parts) ts) (sym c.deref.ensures.value) c.in_ok-pieces.ensures.parts)))

pub returns : goal.returns
returns c =
    let held = c.in-Some.timeline.now.held in
    record {
      ok = subst (IsPlanOf c.args.inventory.now c.args.query.now) (sym c.new-2.ensures)
          (planned c.args.inventory.now c.args.query.now c.in-Some.timeline.now c.source-source.result.now c.in_ok-set.set c.deref.result.now c.in_ok-pairs.pairs.items c.keep_served.new.pairs.items
          c.source-source.ensures c.in-Some.ensures.source c.in-Some.ensures.held
          (subst (SameInstants c.in_ok-set.set) c.intervals.ensures c.in_ok-set.ensures.instants)
          (subst (λ (ts : _). ArePiecesIn (AnyHas c.in_ok-set.set) held (map shown_of ts)) (sym c.deref.ensures.value) c.in_ok-pieces.ensures.pieces)
          (subst (λ (ts : _). All (λ t. ArePartitions (members_of held t.group) t.parts) ts) (sym c.deref.ensures.value) c.in_ok-pieces.ensures.parts)
          c.in_ok-pairs.ensures.asked c.in_ok-pairs.ensures.served c.keep_served.ensures);
    }
