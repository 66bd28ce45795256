use Rattle.std.proofs.Common.{refl, subst}
use Rattle.std.specs.Option.{IsSome}
use Rattle.std.proofs.lemmas.Bool.{false≢true}
use Rattle.druid_inventory.proofs.ChangeOfTimelineLemmas.{GoOver-start, GoOver-next, GoOver-end}
use Rattle.druid_inventory.proofs.TransactionLemmas.{no_entries}
use Rattle.druid_inventory.proofs.timelines.end_changes.Goals as goal

pub loop-source-init : goal.loop-source-init
loop-source-init c = GoOver-start c.args.changing c.new-timelines.result c.new-timelines.ensures.empty

pub loop-source-preserved : goal.loop-source-preserved
loop-source-preserved c =
    GoOver-next c.args.changing c.loop-source.changing c.pop_first.new.self c.loop-source.timelines c.insert.new.self c.in-Some.source c.in-Some.source c.in-Some.timeline c.in_ok-into_shared.field-0
    c.in-Some.ensures.value c.in-Some.ensures.updates refl c.in_ok-into_shared.ensures c.in_ok-insert.ensures.updates c.loop-source.invariant

pub loop-source-preserved-in_ok-insert : goal.loop-source-preserved-in_ok-insert
loop-source-preserved-in_ok-insert c =
    GoOver-next c.args.changing c.loop-source.changing c.pop_first.new.self c.loop-source.timelines c.insert.new.self c.in-Some.source c.in-Some.source c.in-Some.timeline c.in_ok-into_shared.field-0
    c.in-Some.ensures.value c.in-Some.ensures.updates refl c.in_ok-into_shared.ensures c.in_ok-insert.ensures.updates c.loop-source.invariant

pub loop-source-preserved-in_ok-insert-2 : goal.loop-source-preserved-in_ok-insert-2
loop-source-preserved-in_ok-insert-2 c =
    GoOver-next c.args.changing c.loop-source.changing c.pop_first.new.self c.loop-source.timelines c.insert.new.self c.in-Some.source c.in-Some.source c.in-Some.timeline c.in_ok-into_shared.field-0
    c.in-Some.ensures.value c.in-Some.ensures.updates refl c.in_ok-into_shared.ensures c.in_ok-insert.ensures.updates c.loop-source.invariant

pub returns : goal.returns
returns c =
    GoOver-end c.args.changing c.loop-source.changing c.loop-source.timelines
    (no_entries c.loop-source.changing.entries (λ more. false≢true (subst (λ o. IsSome o) c.in_default.is (c.pop_first.ensures.variant.1 more))))
    c.loop-source.invariant
