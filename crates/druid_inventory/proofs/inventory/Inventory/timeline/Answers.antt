use Rattle.std.proofs.Common.{rules, ◌≡◌, ◌↔◌, Bor, Option, None, IsSome, map, sym, subst}
use Rattle.std.specs.Prelude.{⊤}
use Rattle.std.proofs.lemmas.Option.{MatchOption-at_some}
use Rattle.druid_timeline.specs.Holding.{Serving}
use Rattle.std.specs.Arc.{arc_value}
use Rattle.druid_inventory.specs.Sources.{HasSource, IsHoldingOf}
use Rattle.druid_inventory.proofs.EditLemmas.{some_so, none_so}
use Rattle.druid_inventory.proofs.TimelineLemmas.{IsInventory-same, found_some, found_held}
use Rattle.druid_inventory.proofs.inventory.Inventory.timeline.Goals as goal

pub returns-in_err-timeline-clause-some : goal.returns-in_err-timeline-clause-some
returns-in_err-timeline-clause-some c =
    let kept = IsInventory-same (map arc_value (arc_value c.self.inside.entries).items) c.args.self.now (arc_value c.self.inside.timelines) c.deref.result.now
    (sym c.self.view_is) c.deref.ensures c.self.invariant in
    let none : c.from_residual.result ≡ None = search rules in
    subst (λ (o : Option (Bor Serving)). IsSome o ↔ HasSource c.args.self.now c.args.source.now) (sym none)
    (none_so c.get.result (HasSource c.args.self.now c.args.source.now) c.in_err-timeline.was
    (found_some c.args.self.now c.args.source.now c.deref.result.now c.get.result c.get.ensures.value kept.over))

pub returns-clause-some : goal.returns-clause-some
returns-clause-some c =
    let kept = IsInventory-same (map arc_value (arc_value c.self.inside.entries).items) c.args.self.now (arc_value c.self.inside.timelines) c.deref.result.now
    (sym c.self.view_is) c.deref.ensures c.self.invariant in
    some_so c.get.result c.in_ok-timeline.timeline c.as_timeline.result (HasSource c.args.self.now c.args.source.now) c.in_ok-timeline.was
    (found_some c.args.self.now c.args.source.now c.deref.result.now c.get.result c.get.ensures.value kept.over)

pub returns-clause-held : goal.returns-clause-held
returns-clause-held c =
    let kept = IsInventory-same (map arc_value (arc_value c.self.inside.entries).items) c.args.self.now (arc_value c.self.inside.timelines) c.deref.result.now
    (sym c.self.view_is) c.deref.ensures c.self.invariant in
    let held = found_held c.args.self.now c.args.source.now c.deref.result.now c.get.result c.get.ensures.value kept.over in
    subst (λ (t : Serving). IsHoldingOf c.args.self.now c.args.source.now t.held) (sym c.as_timeline.ensures)
    (MatchOption-at_some ⊤ (λ (t : Bor Serving). IsHoldingOf c.args.self.now c.args.source.now t.now.held) c.in_ok-timeline.timeline c.in_ok-timeline.was held)
