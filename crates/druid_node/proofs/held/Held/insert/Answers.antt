use Rattle.std.proofs.Common.{map, sym, ap, ◌∙◌, subst}
use Rattle.std.specs.Arc.{arc_value}
use Rattle.druid_segment_id.specs.Identifier.{Identifier}
use Rattle.druid_segment_descriptor.specs.Described.{Described, IsDescribed}
use Rattle.druid_segment_descriptor.specs.Replay.{StandsAt, BelongsAt, is_strict, has_room}
use Rattle.druid_segment_descriptor.specs.declared.change.Change.TheVariants.{Load}
use Rattle.druid_segment_descriptor.proofs.PlaceLemmas.{stands_not_strict}
use Rattle.druid_node.specs.State.{descriptors_of}
use Rattle.druid_node.specs.Held.{IsWhole, IsHeld, with_held}
use Rattle.druid_node.proofs.HeldLemmas.{inserted-held}
use Rattle.druid_node.proofs.PlaceLemmas.{put_at}
use Rattle.druid_node.proofs.held.Held.insert.Goals as goal

pub unreachable-requires : goal.unreachable-requires
unreachable-requires c =
    let xs = map arc_value c.self.inside.segments.items in
    let d = c.args.segment.descriptor in
    let id = c.id.ensures.value ∙ ap (λ (x : Described). x.id) c.descriptor-descriptor.ensures.value in
    let at : StandsAt (descriptors_of xs) d.id c.in_default.field-0 =
    subst (λ (k : Identifier). StandsAt (descriptors_of xs) k c.in_default.field-0) id
    (subst (λ items. StandsAt (descriptors_of (map arc_value items)) c.id.result.now c.in_default.field-0) c.deref.ensures.value c.in_default.ensures.found) in
    stands_not_strict (descriptors_of xs) d c.in_default.field-0 (ap (λ zs. is_strict (descriptors_of zs) (Load d)) c.self.view_is ∙ c.requires.strict) at

pub invariant_of-self-2 : goal.invariant_of-self-2
invariant_of-self-2 c =
    let xs = map arc_value c.self.inside.segments.items in
    let s = c.args.segment in
    let id = c.id.ensures.value ∙ ap (λ (x : Described). x.id) c.descriptor-descriptor.ensures.value in
    let at : BelongsAt (descriptors_of xs) s.descriptor.id c.in-Err.place =
    subst (λ (k : Identifier). BelongsAt (descriptors_of xs) k c.in-Err.place) id
    (subst (λ items. BelongsAt (descriptors_of (map arc_value items)) c.id.result.now c.in-Err.place) c.deref.ensures.value c.in-Err.ensures.absent) in
    let whole : IsWhole s = record { described = subst IsDescribed c.descriptor-descriptor.ensures.value c.id.ensures.valid; valid = c.descriptor-descriptor.ensures.valid; words = c.descriptor-descriptor.ensures.words } in
    let made = put_at arc_value c.self.inside.segments.items c.insert.new.self.items c.in_ok-shared.shared s c.in-Err.place c.in_ok-insert.ensures.items c.in_ok-shared.ensures.ok at in
    subst IsHeld (sym made) (inserted-held xs s whole c.self.invariant (ap (λ zs. is_strict (descriptors_of zs) (Load s.descriptor)) c.self.view_is ∙ c.requires.strict)
    (ap (λ zs. has_room (descriptors_of zs) (Load s.descriptor)) c.self.view_is ∙ c.requires.room))

pub returns-clause-inserted : goal.returns-clause-inserted
returns-clause-inserted c =
    let xs = map arc_value c.self.inside.segments.items in
    let s = c.args.segment in
    let id = c.id.ensures.value ∙ ap (λ (x : Described). x.id) c.descriptor-descriptor.ensures.value in
    let at : BelongsAt (descriptors_of xs) s.descriptor.id c.in-Err.place =
    subst (λ (k : Identifier). BelongsAt (descriptors_of xs) k c.in-Err.place) id
    (subst (λ items. BelongsAt (descriptors_of (map arc_value items)) c.id.result.now c.in-Err.place) c.deref.ensures.value c.in-Err.ensures.absent) in
    put_at arc_value c.self.inside.segments.items c.insert.new.self.items c.in_ok-shared.shared s c.in-Err.place c.in_ok-insert.ensures.items c.in_ok-shared.ensures.ok at
    ∙ ap (with_held s) c.self.view_is
