use Rattle.std.proofs.Common.{None, arith, get_or, refl, Bor, List, [], ℕ}
use Rattle.druid_partial_scan.specs.Cells.{Column}
use Rattle.druid_partial_scan.specs.Slices.{borrowed_texts, IsCoded}
use Rattle.druid_partial_scan.proofs.TextLemmas.{coded_next}
use Rattle.druid_base.proofs.ClauseLemmas.{if_some}
use Rattle.druid_partial_scan.proofs.texts.coded_columns.Goals as goal

pub loop-index-preserved : goal.loop-index-preserved
loop-index-preserved c =
    let place = get_or c.args.places.now c.loop-index.index None in
    let none : Bor (List (Bor (List ℕ))) = record { ref_ptr = (0, 0); now = [] } in
    let P : Column → Type 0 = λ d. IsCoded c.args.segment.now (borrowed_texts (get_or c.args.lists.now c.loop-index.index none).now) place d in
    coded_next c.args.segment.now c.args.lists.now c.args.places.now c.loop-index.index none None place c.loop-index.columns.items c.push.new.self.items c.in-Some.column
    (omega arith) (omega arith) refl c.loop-index.invariant (if_some P c.in_ok-column.field-0 c.in-Some.column c.in-Some.is c.in_ok-column.ensures) c.in_ok-push.ensures.items
