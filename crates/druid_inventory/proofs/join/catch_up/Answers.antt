use Rattle.std.proofs.Common.{◌≡◌, map, Some, sym, ap, ◌∙◌}
use Rattle.std.specs.Arc.{arc_value}
use Rattle.std.specs.List.{slice_get}
use Rattle.std.specs.Ordering.{is_lt}
use Rattle.std.proofs.lemmas.Result.{on_ok_weaker}
use Rattle.druid_segment_descriptor.specs.Mark.{mark_cmp}
use Rattle.druid_inventory.specs.Entry.{Entry}
use Rattle.druid_inventory.proofs.JoinLemmas.{not_older, beyond}
use Rattle.druid_inventory.proofs.join.catch_up.Goals as goal

pub returns-then-not-is_older-clause-entries :
    goal.returns-then-not-is_older-clause-entries
returns-then-not-is_older-clause-entries c =
    let es = map arc_value c.args.entries.now.items in
    let found : slice_get es c.args.node ≡ Some c.entry_of.result.now =
    ap (λ xs. slice_get (map arc_value xs) c.args.node) (sym c.deref.ensures.value) ∙ c.entry_of.ensures in
    let level : is_lt (mark_cmp c.entry_of.result.now.mark (arc_value c.args.entry.now).mark) ≡ _ =
    ap (λ (e : Entry). is_lt (mark_cmp c.entry_of.result.now.mark e.mark)) (sym c.deref-2.ensures) ∙ sym c.is_older.ensures ∙ c.if-not-is_older.true in
    not_older es c.args.node c.entry_of.result.now (arc_value c.args.entry.now) found level

pub returns-clause-entries : goal.returns-clause-entries
returns-clause-entries c =
    let es = map arc_value c.args.entries.now.items in
    let found : slice_get es c.args.node ≡ Some c.entry_of.result.now =
    ap (λ xs. slice_get (map arc_value xs) c.args.node) (sym c.deref.ensures.value) ∙ c.entry_of.ensures in
    let level : is_lt (mark_cmp c.entry_of.result.now.mark (arc_value c.args.entry.now).mark) ≡ _ =
    ap (λ (e : Entry). is_lt (mark_cmp c.entry_of.result.now.mark e.mark)) (sym c.deref-2.ensures) ∙ sym c.is_older.ensures ∙ c.if-not-is_older.false in
    on_ok_weaker c.put_entry.result
    (λ made. beyond es (map arc_value c.put_entry.new.entries.items) c.args.node c.entry_of.result.now (arc_value c.args.entry.now)
    (arc_value c.in_ok-entry.entry) found level made c.in_ok-entry.ensures)
    c.put_entry.ensures.entries
