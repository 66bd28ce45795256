use Rattle.std.proofs.Common.{◌≡◌, ℕ, List, Some, ap, sym, subst, ◌∙◌}
use Rattle.std.specs.BTreeMap.{BTreeMap, UpdatesBy}
use Rattle.std.specs.Ordering.{nat_cmp}
use Rattle.std.specs.Cmp.Lexicographic.{slice_cmp}
use Rattle.druid_timeline.specs.Holding.{Serving, held_of, AddsHeld}
use Rattle.std.specs.Option.{is_some}
use Rattle.std.proofs.lemmas.Result.{on_ok_weaker}
use Rattle.druid_segment_id.specs.Identifier.{Identifier}
use Rattle.druid_inventory.proofs.EditLemmas.{both_ok}
use Rattle.druid_inventory.proofs.TimelineLemmas.{AddsSegment-grown, AddsSegment-begun}
use Rattle.druid_inventory.proofs.timelines.add_segment.Goals as goal

-- the timeline that was there has the segment more
pub returns-in-Some : goal.returns-in-Some
returns-in-Some c =
    let same = c.source-source.ensures.value ∙ ap (λ (id : Identifier). id.source) c.id.ensures.value in
    let writes = (c.get_mut.follows.holds c.add.new.self).3 (ap is_some (sym c.in-Some.ensures.value)) in
    on_ok_weaker c.add.result
    (λ edit. AddsSegment-grown c.args.timelines.now (c.get_mut.follows.lender c.add.new.self) c.source-source.result.now
    c.in-Some.timeline.now c.add.new.self c.args.node c.args.descriptor.now
    same c.in-Some.ensures.value c.requires writes edit.1 edit.0)
    (both_ok c.add.result (AddsHeld c.in-Some.timeline.now.held c.add.new.self.held (held_of c.args.node c.args.descriptor.now))
    (c.add.new.self.source ≡ c.in-Some.timeline.now.source) c.add.ensures.added c.add.ensures.source)

-- a timeline with the segment is put into the map
pub returns-in_ok-insert-in-None : goal.returns-in_ok-insert-in-None
returns-in_ok-insert-in-None c =
    let same = c.source-source.ensures.value ∙ ap (λ (id : Identifier). id.source) c.id.ensures.value in
    let writes = subst (λ (m : BTreeMap (List ℕ) Serving). UpdatesBy (slice_cmp nat_cmp) (slice_cmp nat_cmp c.in_ok-clone-in-None-2.field-0) m c.insert.new.self (Some c.add-in-None.new.self))
    c.get_mut.follows.holds-at-none c.in_ok-insert-in-None.ensures.updates in
    AddsSegment-begun c.args.timelines.now c.insert.new.self c.source-source.result.now
    c.in_ok-clone-in-None-2.field-0 c.in_ok-clone-in-None.field-0 c.new-timeline.result c.add-in-None.new.self
    c.args.node c.args.descriptor.now
    same c.in-None.ensures.value c.in_ok-clone-in-None-2.ensures.cases c.in_ok-clone-in-None.ensures.cases c.new-timeline.ensures
    writes c.in_ok-add-in-None.ensures.source c.in_ok-add-in-None.ensures.added
