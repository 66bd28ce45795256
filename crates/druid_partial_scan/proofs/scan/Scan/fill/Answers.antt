use Rattle.std.proofs.Common.{◌∙◌, List, set, map, length, Some, ap, sym, subst, arith}
use Rattle.std.specs.Prelude.{All}
use Rattle.druid_partial_scan.specs.Cells.{HasNumber, number_from, room_from}
use Rattle.druid_partial_scan.specs.declared.cells.NumberColumn.{NumberColumn}
use Rattle.druid_partial_scan.proofs.SourceLemmas.{row_of}
use Rattle.druid_partial_scan.proofs.PutLemmas.{room_stays}
use Rattle.druid_partial_scan.proofs.scan.Scan.fill.Goals as goal

pub put-requires-clause-row : goal.put-requires-clause-row
put-requires-clause-row g c =
    let P : List NumberColumn → Type 0 = All (HasNumber c.args.row) in
    subst P (sym c.deref.ensures.value) (row_of c.args.self.now c.args.row c.self.invariant c.self.view_is c.requires.row).has

pub put-requires-clause-cell : goal.put-requires-clause-cell
put-requires-clause-cell g c =
    let below = c.requires.cell in let wide = c.requires.room.long in omega (arith, below, wide)

pub put-requires-clause-width : goal.put-requires-clause-width
put-requires-clause-width g c =
    ap length c.deref.ensures.value ∙ (row_of c.args.self.now c.args.row c.self.invariant c.self.view_is c.requires.row).wide ∙ sym c.requires.room.width

pub returns-clause-room : goal.returns-clause-room
returns-clause-room g c =
    room_stays c.args.self.now.query (room_from c.args.self.now.columns 1) c.args.cell _ c.args.cells.now c.put.new.self c.requires.room c.put.ensures.width c.put.ensures.groups

pub returns-clause-groups : goal.returns-clause-groups
returns-clause-groups g c =
    c.put.ensures.groups
    ∙ ap (λ xs. set c.args.cells.now.groups c.args.cell (Some (c.args.kept, xs))) (ap (map (number_from c.args.row)) c.deref.ensures.value ∙ (row_of c.args.self.now c.args.row c.self.invariant c.self.view_is c.requires.row).taken_are)
