use Rattle.std.proofs.Common.{◌∙◌, List, map, ap, sym, subst}
use Rattle.std.specs.Prelude.{All}
use Rattle.std.proofs.lemmas.Result.{on_ok_weaker}
use Rattle.druid_partial_scan.specs.Cells.{HasNumber, number_from}
use Rattle.druid_partial_scan.specs.declared.cells.NumberColumn.{NumberColumn}
use Rattle.druid_partial_scan.proofs.SourceLemmas.{row_of}
use Rattle.druid_partial_scan.proofs.SparseLemmas.{entries_joined}
use Rattle.druid_partial_scan.proofs.scan.Scan.enter.Goals as goal

pub enter_row-requires : goal.enter_row-requires
enter_row-requires c =
    let P : List NumberColumn → Type 0 = All (HasNumber c.args.row) in
    subst P (sym c.deref-2.ensures.value) (row_of c.args.self.now c.args.row c.self.invariant c.self.view_is c.requires.row).has

pub returns-clause-words : goal.returns-clause-words
returns-clause-words c = (row_of c.args.self.now c.args.row c.self.invariant c.self.view_is c.requires.row).words

pub returns-clause-joined : goal.returns-clause-joined
returns-clause-joined c =
    let known = row_of c.args.self.now c.args.row c.self.invariant c.self.view_is c.requires.row in
    on_ok_weaker c.enter_row.result
    (λ e. entries_joined c.args.self.now c.args.row c.cell_at-cell.result c.deref.result.now (map (number_from c.args.row) c.deref-2.result.now) c.args.cells.now.entries c.enter_row.new.cells.entries
    known.places c.requires.row known.words (c.deref.ensures.value ∙ known.kinds_are) (ap (map (number_from c.args.row)) c.deref-2.ensures.value ∙ known.taken_are) c.cell_at-cell.ensures.value e) c.enter_row.ensures
