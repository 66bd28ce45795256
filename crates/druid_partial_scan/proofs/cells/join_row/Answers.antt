use Rattle.std.proofs.Common.{◌≡◌, ◌∙◌, ℤ, List, Option, None, ap, sym, arith, map, set, get_or, take}
use Rattle.std.proofs.lemmas.List.{get_or_default}
use Rattle.druid_query.specs.declared.aggregator.AggregatorKind.TheVariants.{Count}
use Rattle.druid_partial_scan.specs.declared.cells.NumberColumn.TheVariants.{One}
use Rattle.druid_partial.specs.Joined.{joined}
use Rattle.druid_partial_scan.specs.Cells.{number_from, join_into}
use Rattle.druid_partial_scan.proofs.IntoLemmas.{into_more, into_all}
use Rattle.druid_partial_scan.proofs.cells.join_row.Goals as goal

pub loop-place-preserved : goal.loop-place-preserved
loop-place-preserved c =
    let i = c.loop-place.place in
    let kind = get_or c.args.kinds.now i Count in
    let number = number_from c.args.row (get_or c.args.columns.now i One) in
    let before : List (Option ℤ) = join_into (take i c.args.kinds.now) (map (number_from c.args.row) c.args.columns.now) c.args.numbers.now in
    let same : c.loop-place.numbers ≡ before = c.loop-place.invariant in
    let one : c.join_number.result ≡ joined kind number (get_or before i None) =
    c.join_number.ensures ∙ ap (λ n. joined kind n (get_or c.loop-place.numbers i None)) (c.number_at.ensures ∙ ap (number_from c.args.row) (c.index-columns-place.is ∙ get_or_default c.args.columns.now i c.index-columns-place.result One (omega arith))) ∙ ap (λ (l : List (Option ℤ)). joined kind number (get_or l i None)) same in
    ap (λ l. set l i c.join_number.result) same ∙ ap (set before i) one
    ∙ sym (into_more c.args.kinds.now c.args.columns.now c.args.row c.args.numbers.now i Count One None (omega arith) (omega arith)
    (let e = c.loop-place.auto.numbers in omega arith))

pub returns : goal.returns
returns c = c.loop-place.invariant ∙ into_all c.args.kinds.now c.args.columns.now c.args.row c.args.numbers.now c.loop-place.place (omega arith)
