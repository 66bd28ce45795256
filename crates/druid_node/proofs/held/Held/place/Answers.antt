use Rattle.std.proofs.Common.{◌≡◌, List, map, sym, ap, ◌∙◌, subst}
use Rattle.std.specs.Arc.{arc_value}
use Rattle.std.specs.List.{slice_get}
use Rattle.druid_segment_rows.specs.Segment.{Segment}
use Rattle.druid_segment_descriptor.specs.Replay.{StandsAt, BelongsAt}
use Rattle.druid_segment_descriptor.proofs.ReplayLemmas.{in_order}
use Rattle.druid_partial_scan.specs.Once.{segment_named}
use Rattle.druid_node.specs.State.{descriptors_of}
use Rattle.druid_node.proofs.PlaceLemmas.{named_at, absent_at}
use Rattle.druid_node.proofs.held.Held.place.Goals as goal

pub returns-in-Ok-clause-found : goal.returns-in-Ok-clause-found
returns-in-Ok-clause-found c =
    let xs = map arc_value c.self.inside.segments.items in
    let at : StandsAt (descriptors_of xs) c.args.id.now c.in-Ok.place =
    subst (λ items. StandsAt (descriptors_of (map arc_value items)) c.args.id.now c.in-Ok.place) c.deref.ensures.value c.in-Ok.ensures.found in
    let P = λ (zs : List Segment). slice_get zs c.in-Ok.place ≡ segment_named c.args.id.now zs in
    subst P c.self.view_is (named_at xs c.args.id.now c.in-Ok.place (in_order (descriptors_of xs) c.self.invariant.set.sorted) at).1

pub returns-in-Err-clause-none : goal.returns-in-Err-clause-none
returns-in-Err-clause-none c =
    let xs = map arc_value c.self.inside.segments.items in
    let at : BelongsAt (descriptors_of xs) c.args.id.now c.in-Err.field-0 =
    subst (λ items. BelongsAt (descriptors_of (map arc_value items)) c.args.id.now c.in-Err.field-0) c.deref.ensures.value c.in-Err.ensures.absent in
    sym (absent_at xs c.args.id.now c.in-Err.field-0 at ∙ ap (segment_named c.args.id.now) c.self.view_is)
