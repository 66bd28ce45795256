use Rattle.std.proofs.Common.{◌∙◌, ap, arith}
use Rattle.std.proofs.lemmas.List.{get_or_default}
use Rattle.druid_partial_scan.specs.Cells.{number_from}
use Rattle.druid_partial_scan.specs.declared.cells.NumberColumn.TheVariants.{One}
use Rattle.druid_partial_scan.proofs.FlatLemmas.{written_more}
use Rattle.druid_partial_scan.proofs.group_array.write_row.Goals as goal

pub loop-place-preserved : goal.loop-place-preserved
loop-place-preserved c =
    written_more (number_from c.args.row) c.args.columns.now c.args.numbers.now c.loop-place.numbers c.loop-place.place c.number_at.result One (let l = c.requires.long in omega arith) (omega arith)
    (c.number_at.ensures ∙ ap (number_from c.args.row) (c.index-columns-place.is ∙ get_or_default c.args.columns.now c.loop-place.place c.index-columns-place.result One (let l = c.requires.long in omega arith))) c.loop-place.invariant
