use Rattle.std.proofs.Common.{◌≡◌, ◌+◌, ◌-◌, ◌/◌, get_or, ap, ◌∙◌, arith, refl}
use Rattle.std.specs.Ordering.{nat_cmp}
use Rattle.std.specs.Cmp.Lexicographic.{slice_cmp}
use Rattle.druid_segment_id.specs.Identifier.{Identifier, identifier_text, identifier_cmp}
use Rattle.druid_segment_descriptor.specs.Described.{Described}
use Rattle.druid_inventory.specs.Judged.{segment_of}
use Rattle.druid_inventory.proofs.LastLemmas.{each_within, probed, search_on, search_back, search_found}
use Rattle.druid_inventory.proofs.strict_changes.find_last.Goals as goal

pub bounds-changes-place : goal.bounds-changes-place
bounds-changes-place c =
    let h = c.requires.1 in
    let left = c.loop-low.invariant c.requires.0 h in
    let within = left.within in
    let long = h.long in
    each_within c.args.changes.now c.args.last.now c.requires.0 (c.loop-low.low + (c.loop-low.high - c.loop-low.low) / 2) h (omega arith)

pub loop-low-preserved-in-Less : goal.loop-low-preserved-in-Less
loop-low-preserved-in-Less c segments h =
    let middle = c.loop-low.low + (c.loop-low.high - c.loop-low.low) / 2 in
    let left = c.loop-low.invariant segments h in
    let within = left.within in
    let long = h.long in
    let probe = probed c.args.changes.now c.args.last.now segments middle (get_or c.args.last.now middle 0) c.index-changes-place.result h (omega arith) refl c.index-changes-place.is in
    let named : c.id.result.now ≡ (segment_of c.index-changes-place.result).id = c.id.ensures.value ∙ ap (λ (x : Described). x.id) c.segment_of.ensures in
    search_on segments c.args.id.now (segment_of c.index-changes-place.result).id c.loop-low.low c.loop-low.high middle probe.0 h.sorted left (omega arith) (omega arith) probe.1
    (c.in-Less.ensures.texts ∙ ap (λ (i : Identifier). slice_cmp nat_cmp (identifier_text i) (identifier_text c.args.id.now)) named)

pub returns-in-Equal : goal.returns-in-Equal
returns-in-Equal c segments h =
    let middle = c.loop-low.low + (c.loop-low.high - c.loop-low.low) / 2 in
    let left = c.loop-low.invariant segments h in
    let within = left.within in
    let long = h.long in
    let probe = probed c.args.changes.now c.args.last.now segments middle (get_or c.args.last.now middle 0) c.index-changes-place.result h (omega arith) refl c.index-changes-place.is in
    let named : c.id.result.now ≡ (segment_of c.index-changes-place.result).id = c.id.ensures.value ∙ ap (λ (x : Described). x.id) c.segment_of.ensures in
    search_found segments c.args.id.now (segment_of c.index-changes-place.result).id middle probe.0 (omega arith) probe.1
    (c.in-Equal.ensures.order ∙ ap (λ (i : Identifier). identifier_cmp i c.args.id.now) named)

pub loop-low-preserved : goal.loop-low-preserved
loop-low-preserved c segments h =
    let middle = c.loop-low.low + (c.loop-low.high - c.loop-low.low) / 2 in
    let left = c.loop-low.invariant segments h in
    let within = left.within in
    let long = h.long in
    let probe = probed c.args.changes.now c.args.last.now segments middle (get_or c.args.last.now middle 0) c.index-changes-place.result h (omega arith) refl c.index-changes-place.is in
    let named : c.id.result.now ≡ (segment_of c.index-changes-place.result).id = c.id.ensures.value ∙ ap (λ (x : Described). x.id) c.segment_of.ensures in
    search_back segments c.args.id.now (segment_of c.index-changes-place.result).id c.loop-low.low c.loop-low.high middle probe.0 h.sorted left (omega arith) (omega arith) probe.1
    (c.in-Greater.ensures.texts ∙ ap (λ (i : Identifier). slice_cmp nat_cmp (identifier_text i) (identifier_text c.args.id.now)) named)
