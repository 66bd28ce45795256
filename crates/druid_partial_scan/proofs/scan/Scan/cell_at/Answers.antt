use Rattle.std.proofs.Common.{◌∙◌, ◌<◌, List, ap, sym, subst}
use Rattle.std.specs.Prelude.{All}
use Rattle.druid_partial_scan.specs.Cells.{Column, HasCode, cell_from, room_from}
use Rattle.druid_partial_scan.proofs.SourceLemmas.{row_of}
use Rattle.druid_partial_scan.proofs.scan.Scan.cell_at.Goals as goal

pub cell_of-requires-clause-codes : goal.cell_of-requires-clause-codes
cell_of-requires-clause-codes c =
    let P : List Column → Type 0 = All (HasCode c.args.row) in
    subst P (sym c.deref.ensures.value) (row_of c.args.self.now c.args.row c.self.invariant c.self.view_is c.requires.row).codes

pub returns-clause-value : goal.returns-clause-value
returns-clause-value c =
    c.cell_of.ensures.value ∙ ap (λ cs. cell_from cs c.args.row 0) (c.deref.ensures.value ∙ (row_of c.args.self.now c.args.row c.self.invariant c.self.view_is c.requires.row).same)

pub returns-clause-inside : goal.returns-clause-inside
returns-clause-inside c =
    subst (λ (cs : List Column). c.cell_of.result < room_from cs 1) (c.deref.ensures.value ∙ (row_of c.args.self.now c.args.row c.self.invariant c.self.view_is c.requires.row).same) c.cell_of.ensures.inside

pub returns-clause-columns : goal.returns-clause-columns
returns-clause-columns c = (row_of c.args.self.now c.args.row c.self.invariant c.self.view_is c.requires.row).places
