use Rattle.std.proofs.Common.{◌≡◌, List, Some, map, inl, inr, sym, subst, ◌∙◌}
use Rattle.std.specs.Arc.{arc_value}
use Rattle.std.specs.List.{slice_get}
use Rattle.std.proofs.lemmas.Result.{on_err_weaker, on_ok_weaker}
use Rattle.druid_base.proofs.ListLemmas.{map-copied}
use Rattle.druid_timeline_chunks.proofs.EditLemmas.{was_ok}
use Rattle.druid_base.proofs.ClauseLemmas.{always_err}
use Rattle.druid_segment_descriptor.specs.Described.{Described}
use Rattle.druid_segment_descriptor.specs.Replay.{replay_from}
use Rattle.druid_inventory.specs.Entry.{Entry}
use Rattle.druid_inventory.specs.Moves.{MovesAt}
use Rattle.druid_inventory.specs.Sources.{Serves}
use Rattle.druid_inventory.specs.Timelines.{AreTimelines, IsInventory}
use Rattle.druid_inventory.proofs.EditLemmas.{copied_entries, AreTimelines-copied}
use Rattle.druid_inventory.proofs.EntryLemmas.{err_case}
use Rattle.druid_inventory.proofs.advance.advance_shared.Goals as goal

pub returns-in_err-entries-clause-err : goal.returns-in_err-entries-clause-err
returns-in_err-entries-clause-err c =
    let before = (arc_value c.args.entries.now).items in
    let after = (arc_value c.make_mut.follows.lender-at-none).items in
    let same : map arc_value after ≡ map arc_value before = elim (err_case c.make_mut.result _ c.in_err-entries.was c.make_mut.follows.holds-at-none) [
      | inl e ↦ (λ i. map arc_value (e i).items)
      | inr h ↦ map-copied arc_value before after h.0
    ] in
    always_err c.from_residual.result (map arc_value after ≡ map arc_value before) same

pub returns-in_err-entries-clause-over : goal.returns-in_err-entries-clause-over
returns-in_err-entries-clause-over c =
    let before = (arc_value c.args.entries.now).items in
    let after = (arc_value c.make_mut.follows.lender-at-none).items in
    let same : map arc_value after ≡ map arc_value before = elim (err_case c.make_mut.result _ c.in_err-entries.was c.make_mut.follows.holds-at-none) [
      | inl e ↦ (λ i. map arc_value (e i).items)
      | inr h ↦ map-copied arc_value before after h.0
    ] in
    subst (λ (xs : List Entry). IsInventory xs (arc_value c.args.timelines.now)) (sym same) c.requires.over

pub returns-in_err-timelines-clause-err : goal.returns-in_err-timelines-clause-err
returns-in_err-timelines-clause-err c =
    let es = map arc_value (arc_value c.args.entries.now).items in
    let borrowed : map arc_value c.in_ok-entries.entries.now.items ≡ es = elim c.in_ok-entries.ensures.value [
      | inl e ↦ (λ i. map arc_value (e i).items)
      | inr h ↦ map-copied arc_value (arc_value c.args.entries.now).items c.in_ok-entries.entries.now.items h.0
    ] in
    let written = c.make_mut.follows.holds c.in_ok-entries.entries.now (was_ok c.in_ok-entries.was) in
    let after = (arc_value (c.make_mut.follows.lender c.in_ok-entries.entries.now)).items in
    always_err c.from_residual-in_err-timelines.result (map arc_value after ≡ es) ((λ i. map arc_value (written i).items) ∙ borrowed)

pub returns-in_err-timelines-clause-over : goal.returns-in_err-timelines-clause-over
returns-in_err-timelines-clause-over c =
    let es = map arc_value (arc_value c.args.entries.now).items in
    let borrowed : map arc_value c.in_ok-entries.entries.now.items ≡ es = elim c.in_ok-entries.ensures.value [
      | inl e ↦ (λ i. map arc_value (e i).items)
      | inr h ↦ map-copied arc_value (arc_value c.args.entries.now).items c.in_ok-entries.entries.now.items h.0
    ] in
    let written = c.make_mut.follows.holds c.in_ok-entries.entries.now (was_ok c.in_ok-entries.was) in
    let old = arc_value c.args.timelines.now in
    let new = arc_value c.make_mut-2.follows.lender-at-none in
    let same : new.entries ≡ old.entries = elim (err_case c.make_mut-2.result _ c.in_err-timelines.was c.make_mut-2.follows.holds-at-none) [
      | inl e ↦ (λ i. (e i).entries)
      | inr h ↦ copied_entries old new h
    ] in
    let over : IsInventory es new = record {
      few = c.requires.over.few;
      over = AreTimelines-copied (Serves es) old new same c.requires.over.over;
    } in
    subst (λ (xs : List Entry). IsInventory xs new) (sym ((λ i. map arc_value (written i).items) ∙ borrowed)) over

pub advance_entries-requires-clause-made : goal.advance_entries-requires-clause-made
advance_entries-requires-clause-made c =
    let es = map arc_value (arc_value c.args.entries.now).items in
    let borrowed : map arc_value c.in_ok-entries.entries.now.items ≡ es = elim c.in_ok-entries.ensures.value [
      | inl e ↦ (λ i. map arc_value (e i).items)
      | inr h ↦ map-copied arc_value (arc_value c.args.entries.now).items c.in_ok-entries.entries.now.items h.0
    ] in
    subst (λ (xs : List Entry). (e : Entry) × (slice_get xs c.args.node ≡ Some e) × (t : List Described) × (replay_from e.set c.args.changes.now ≡ Some t))
    (sym borrowed) c.requires.made

pub advance_entries-requires-clause-over : goal.advance_entries-requires-clause-over
advance_entries-requires-clause-over c =
    let es = map arc_value (arc_value c.args.entries.now).items in
    let borrowed : map arc_value c.in_ok-entries.entries.now.items ≡ es = elim c.in_ok-entries.ensures.value [
      | inl e ↦ (λ i. map arc_value (e i).items)
      | inr h ↦ map-copied arc_value (arc_value c.args.entries.now).items c.in_ok-entries.entries.now.items h.0
    ] in
    let same : c.in_ok-timelines.timelines.now.entries ≡ (arc_value c.args.timelines.now).entries = elim c.in_ok-timelines.ensures.value [
      | inl e ↦ (λ i. (e i).entries)
      | inr h ↦ copied_entries (arc_value c.args.timelines.now) c.in_ok-timelines.timelines.now h
    ] in
    subst (λ (xs : List Entry). AreTimelines (Serves xs) c.in_ok-timelines.timelines.now) (sym borrowed)
    (AreTimelines-copied (Serves es) (arc_value c.args.timelines.now) c.in_ok-timelines.timelines.now same c.requires.over.over)

pub returns-clause-ok : goal.returns-clause-ok
returns-clause-ok c =
    let es = map arc_value (arc_value c.args.entries.now).items in
    let borrowed : map arc_value c.in_ok-entries.entries.now.items ≡ es = elim c.in_ok-entries.ensures.value [
      | inl e ↦ (λ i. map arc_value (e i).items)
      | inr h ↦ map-copied arc_value (arc_value c.args.entries.now).items c.in_ok-entries.entries.now.items h.0
    ] in
    let written = c.make_mut.follows.holds c.advance_entries.new.entries (was_ok c.in_ok-entries.was) in
    let after : map arc_value (arc_value (c.make_mut.follows.lender c.advance_entries.new.entries)).items ≡ map arc_value c.advance_entries.new.entries.items =
    (λ i. map arc_value (written i).items) in
    on_ok_weaker c.advance_entries.result
    (λ moves. subst (λ (xs : List Entry). MovesAt es xs c.args.node c.args.to c.args.changes.now) (sym after)
    (subst (λ (xs : List Entry). MovesAt xs (map arc_value c.advance_entries.new.entries.items) c.args.node c.args.to c.args.changes.now) borrowed moves))
    c.advance_entries.ensures.ok

pub returns-clause-err : goal.returns-clause-err
returns-clause-err c =
    let es = map arc_value (arc_value c.args.entries.now).items in
    let borrowed : map arc_value c.in_ok-entries.entries.now.items ≡ es = elim c.in_ok-entries.ensures.value [
      | inl e ↦ (λ i. map arc_value (e i).items)
      | inr h ↦ map-copied arc_value (arc_value c.args.entries.now).items c.in_ok-entries.entries.now.items h.0
    ] in
    let written = c.make_mut.follows.holds c.advance_entries.new.entries (was_ok c.in_ok-entries.was) in
    on_err_weaker c.advance_entries.result (λ same. (λ i. map arc_value (written i).items) ∙ same ∙ borrowed) c.advance_entries.ensures.err
