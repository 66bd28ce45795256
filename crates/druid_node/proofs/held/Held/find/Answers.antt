use Rattle.std.proofs.Common.{◌≡◌, map, Some, sym, ap, ◌∙◌, subst}
use Rattle.std.specs.Arc.{arc_value}
use Rattle.std.specs.List.{slice_get}
use Rattle.druid_segment_descriptor.specs.Replay.{StandsAt, BelongsAt}
use Rattle.druid_segment_descriptor.proofs.ReplayLemmas.{in_order}
use Rattle.druid_partial_scan.specs.Once.{segment_named}
use Rattle.druid_node.specs.State.{descriptors_of}
use Rattle.druid_node.proofs.PlaceLemmas.{found_at, absent_at}
use Rattle.druid_node.proofs.held.Held.find.Goals as goal

pub returns-in-Ok : goal.returns-in-Ok
returns-in-Ok c =
    let xs = map arc_value c.self.inside.segments.items in
    let s = c.segment_at.result.now in
    let at : StandsAt (descriptors_of xs) c.args.id.now c.in-Ok.place =
    subst (λ items. StandsAt (descriptors_of (map arc_value items)) c.args.id.now c.in-Ok.place) c.deref.ensures.value c.in-Ok.ensures.found in
    let here : slice_get xs c.in-Ok.place ≡ Some s =
    ap (λ items. slice_get (map arc_value items) c.in-Ok.place) (sym c.deref-in-Ok.ensures.value) ∙ c.segment_at.ensures in
    found_at xs c.args.id.now c.in-Ok.place s (in_order (descriptors_of xs) c.self.invariant.set.sorted) at here ∙ ap (segment_named c.args.id.now) c.self.view_is

pub returns-in-Err : goal.returns-in-Err
returns-in-Err c =
    let xs = map arc_value c.self.inside.segments.items in
    let at : BelongsAt (descriptors_of xs) c.args.id.now c.in-Err.field-0 =
    subst (λ items. BelongsAt (descriptors_of (map arc_value items)) c.args.id.now c.in-Err.field-0) c.deref.ensures.value c.in-Err.ensures.absent in
    absent_at xs c.args.id.now c.in-Err.field-0 at ∙ ap (segment_named c.args.id.now) c.self.view_is
