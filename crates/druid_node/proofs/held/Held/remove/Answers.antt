use Rattle.std.proofs.Common.{map, sym, ap, ◌∙◌, subst}
use Rattle.std.specs.Arc.{arc_value}
use Rattle.std.specs.Option.{is_some}
use Rattle.druid_segment_descriptor.specs.Replay.{StandsAt, BelongsAt}
use Rattle.druid_segment_descriptor.proofs.ReplayLemmas.{in_order}
use Rattle.druid_partial_scan.specs.Once.{segment_named}
use Rattle.druid_node.specs.State.{descriptors_of}
use Rattle.druid_node.specs.Held.{IsHeld, without_held}
use Rattle.druid_node.proofs.HeldLemmas.{removed-held}
use Rattle.druid_node.proofs.PlaceLemmas.{found_not_absent, taken_at, gone_from}
use Rattle.druid_node.proofs.held.Held.remove.Goals as goal

pub unreachable-requires : goal.unreachable-requires
unreachable-requires c =
    let xs = map arc_value c.self.inside.segments.items in
    let at : BelongsAt (descriptors_of xs) c.args.id.now c.in_default.field-0 =
    subst (λ items. BelongsAt (descriptors_of (map arc_value items)) c.args.id.now c.in_default.field-0) c.deref.ensures.value c.in_default.ensures.absent in
    found_not_absent xs c.args.id.now c.in_default.field-0 (ap (λ zs. is_some (segment_named c.args.id.now zs)) c.self.view_is ∙ c.requires) at

pub invariant_of-self : goal.invariant_of-self
invariant_of-self c =
    let xs = map arc_value c.self.inside.segments.items in
    let at : StandsAt (descriptors_of xs) c.args.id.now c.in-Ok.place =
    subst (λ items. StandsAt (descriptors_of (map arc_value items)) c.args.id.now c.in-Ok.place) c.deref.ensures.value c.in-Ok.ensures.found in
    let made = taken_at arc_value c.self.inside.segments.items c.remove.new.self.items c.args.id.now c.in-Ok.place (in_order (descriptors_of xs) c.self.invariant.set.sorted) c.remove.ensures.items at in
    subst IsHeld (sym made) (removed-held xs c.args.id.now c.self.invariant (ap (λ zs. is_some (segment_named c.args.id.now zs)) c.self.view_is ∙ c.requires))

pub returns-clause-removed : goal.returns-clause-removed
returns-clause-removed c =
    let xs = map arc_value c.self.inside.segments.items in
    let at : StandsAt (descriptors_of xs) c.args.id.now c.in-Ok.place =
    subst (λ items. StandsAt (descriptors_of (map arc_value items)) c.args.id.now c.in-Ok.place) c.deref.ensures.value c.in-Ok.ensures.found in
    taken_at arc_value c.self.inside.segments.items c.remove.new.self.items c.args.id.now c.in-Ok.place (in_order (descriptors_of xs) c.self.invariant.set.sorted) c.remove.ensures.items at
    ∙ ap (without_held c.args.id.now) c.self.view_is

pub returns-clause-gone : goal.returns-clause-gone
returns-clause-gone c =
    let xs = map arc_value c.self.inside.segments.items in
    let order = in_order (descriptors_of xs) c.self.invariant.set.sorted in
    let at : StandsAt (descriptors_of xs) c.args.id.now c.in-Ok.place =
    subst (λ items. StandsAt (descriptors_of (map arc_value items)) c.args.id.now c.in-Ok.place) c.deref.ensures.value c.in-Ok.ensures.found in
    ap (segment_named c.args.id.now) (taken_at arc_value c.self.inside.segments.items c.remove.new.self.items c.args.id.now c.in-Ok.place order c.remove.ensures.items at)
    ∙ gone_from xs c.args.id.now order
