use Rattle.std.proofs.Common.{◌≡◌, ◌+◌, ◌++◌, ◌↔◌, List, length, refl, sym, ap, subst, ◌∙◌, arith, rules}
use Rattle.std.specs.Prelude.{vec_len, vec_capacity, Contains}
use Rattle.druid_segment_descriptor.specs.Described.{Described}
use Rattle.druid_segment_descriptor.specs.Reply.{AreSorted}
use Rattle.druid_segment_descriptor.specs.Replay.{IsSegmentSet, StandsAt, BelongsAt}
use Rattle.druid_inventory.specs.Judged.{segment_of}
use Rattle.druid_inventory.specs.Merged.{NoneIs}
use Rattle.druid_inventory.proofs.LastLemmas.{each_within}
use Rattle.druid_inventory.proofs.MergeLemmas.{of_change, taken_none, taken_slice, taken_same, taken_sorted, taken_found, taken_absent, taken_end, taken_all}
use Rattle.druid_inventory.proofs.merge.take_out.Goals as goal
use Rattle.druid_inventory.proofs.merge.take_out.Goals.{in-Ok, in-Err}

pub loop-place-init : goal.loop-place-init
loop-place-init c = record {
  taken = λ segments l. taken_none c.args.set.now.items segments c.requires.set;
  len = refl;
  capacity = refl;
}

pub bounds-changes-place : goal.bounds-changes-place
bounds-changes-place c = each_within c.args.changes.now c.args.last.now c.requires.last.0 c.loop-place.place-index c.requires.last.1 c.loop-place-test.true

pub find_segment-requires : goal.find_segment-requires
find_segment-requires c =
    let h = c.loop-place.invariant.taken c.requires.last.0 c.requires.last.1 in
    subst AreSorted (sym (taken_slice c.args.set.now.items c.loop-place.set.items c.deref.result.now c.requires.last.0 c.loop-place.place-index c.loop-place.kept c.loop-place.gone c.deref.ensures.value h))
    (taken_sorted c.args.set.now.items c.loop-place.set.items c.requires.last.0 c.loop-place.place-index c.loop-place.kept c.loop-place.gone h)

pub loop-place-preserved : goal.loop-place-preserved
loop-place-preserved c =
    let i = c.loop-place.place-index in
    let kept = c.loop-place.kept in
    let gone = c.loop-place.gone in
    let items = c.loop-place.set.items in
    let s = c.args.set.now.items in
    let id = c.id-id.result.now in
    let named : id ≡ (segment_of c.index-changes-place.result).id = c.id-id.ensures.value ∙ ap (λ (x : Described). x.id) c.segment_of.ensures in
    let d = segment_of c.index-changes-place.result in
    record {
      taken = λ segments l.
          let h = c.loop-place.invariant.taken segments l in
          let rest = taken_slice s items c.deref.result.now segments i kept gone c.deref.ensures.value h in
          let same = of_change c.args.changes.now c.args.last.now segments i c.index-changes-place.result id l c.loop-place-test.true c.index-changes-place.is named in
          let long = l.long in
          elim c.match-find_segment.branch [
            | in-Ok w ↦
                taken_same s w.exchange_parts.new.set.items c.match-find_segment.set.items segments (i + 1) (kept + w.in-Ok.next) c.match-find_segment.kept (gone + 1) c.match-find_segment.gone
                (λ k. (w.set-is k).items) w.kept-is w.gone-is
                (taken_found s items w.exchange_parts.new.set.items segments i kept gone id d w.in-Ok.next h l.sorted (omega (arith, c.loop-place-test.true)) same
                (subst (λ (ds : List Described). StandsAt ds id w.in-Ok.next) rest w.in-Ok.ensures.found) w.exchange_parts.ensures.exchanged)
            | in-Err w ↦
                taken_same s items c.match-find_segment.set.items segments (i + 1) kept c.match-find_segment.kept gone c.match-find_segment.gone
                (λ k. (w.set-is k).items) w.kept-is w.gone-is
                (taken_absent s items segments i kept gone id d w.in-Err.field-0 h (omega (arith, c.loop-place-test.true)) same
                (subst (λ (ds : List Described). BelongsAt ds id w.in-Err.field-0) rest w.in-Err.ensures.absent))
          ];
      len = elim c.match-find_segment.branch [
        | in-Ok w ↦ (λ k. vec_len (w.set-is k)) ∙ w.exchange_parts.ensures.len ∙ c.loop-place.invariant.len
        | in-Err w ↦ (λ k. vec_len (w.set-is k)) ∙ c.loop-place.invariant.len
      ];
      capacity = elim c.match-find_segment.branch [
        | in-Ok w ↦ (λ k. vec_capacity (w.set-is k)) ∙ w.exchange_parts.ensures.capacity ∙ c.loop-place.invariant.capacity
        | in-Err w ↦ (λ k. vec_capacity (w.set-is k)) ∙ c.loop-place.invariant.capacity
      ];
    }

pub returns-clause-set : goal.returns-clause-set
returns-clause-set c =
    let h = c.loop-place.invariant.taken c.requires.last.0 c.requires.last.1 in
    let all : c.len-count.result ≡ length c.loop-place.set.items = search rules in
    let final = c.truncate.ensures.items ∙ taken_end c.args.set.now.items c.loop-place.set.items c.exchange_parts-2.new.set.items c.requires.last.0 c.loop-place.place-index c.loop-place.kept c.loop-place.gone
    c.len-count.result _ h all c.exchange_parts-2.ensures.exchanged refl in
    subst IsSegmentSet (sym final) h.set

pub returns-clause-left : goal.returns-clause-left
returns-clause-left c segments l x =
    let h = c.loop-place.invariant.taken segments l in
    let all : c.len-count.result ≡ length c.loop-place.set.items = search rules in
    let final = c.truncate.ensures.items ∙ taken_end c.args.set.now.items c.loop-place.set.items c.exchange_parts-2.new.set.items segments c.loop-place.place-index c.loop-place.kept c.loop-place.gone
    c.len-count.result _ h all c.exchange_parts-2.ensures.exchanged refl in
    let long = l.long in
    subst (λ (ds : List Described). Contains ds x ↔ (Contains c.args.set.now.items x × NoneIs segments x.id)) (sym final)
    (taken_all c.args.set.now.items segments c.loop-place.place-index x (h.K ++ h.R) (omega (arith, c.loop-place-test.false, c.loop-place.auto.place-index-end)) (h.members x))
