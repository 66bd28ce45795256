use Rattle.std.proofs.Common.{ℕ, Option, sym, subst, arith, Bor, List, Vec, Global}
use Rattle.std.proofs.lemmas.List.{length-map}
use Rattle.druid_segment_rows.specs.Columns.{AreCodes}
use Rattle.druid_partial_scan.specs.Slices.{borrowed_texts, values_in, IsCoded}
use Rattle.druid_partial_scan.proofs.TextLemmas.{table_column}
use Rattle.druid_base.proofs.ClauseLemmas.{if_some}
use Rattle.druid_partial_scan.proofs.texts.coded_column.Goals as goal

pub returns-in-Some-2 : goal.returns-in-Some-2
returns-in-Some-2 c =
    let texts = borrowed_texts c.args.texts.now in
    let own = c.values.result.now in
    let P : Option ℕ → Type 0 = λ place. IsCoded c.args.segment.now texts place c.through.result in
    let T : Vec ℕ Global → Type 0 = λ table. AreCodes texts (values_in own) table.items in
    subst P (sym c.in-Some.is) (table_column c.args.segment.now c.in-Some.place _ texts own c.codes.result.now c.in-Some-2.table c.through.result
    (c.codes.ensures own c.values.ensures) (if_some T c.in_ok-table.field-0 c.in-Some-2.table c.in-Some-2.is c.in_ok-table.ensures) (let e = length-map c.args.texts.now (λ (t : Bor (List ℕ)). t.now) in omega arith) c.through.ensures)
