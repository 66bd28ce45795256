use Rattle.std.proofs.Common.{◌∙◌, List, set, map, ap, sym, subst, arith}
use Rattle.std.specs.Prelude.{All, slice_index_or, None}
use Rattle.druid_partial_scan.specs.Cells.{HasNumber, number_from, joined_with, room_from}
use Rattle.druid_partial_scan.specs.declared.cells.NumberColumn.{NumberColumn}
use Rattle.druid_partial_scan.proofs.SourceLemmas.{row_of}
use Rattle.druid_partial_scan.proofs.PutLemmas.{room_stays}
use Rattle.druid_partial_scan.proofs.scan.Scan.join.Goals as goal

pub join-requires-clause-row : goal.join-requires-clause-row
join-requires-clause-row g c =
    let P : List NumberColumn → Type 0 = All (HasNumber c.args.row) in
    subst P (sym c.deref-2.ensures.value) (row_of c.args.self.now c.args.row c.self.invariant c.self.view_is c.requires.row).has

pub join-requires-clause-cell : goal.join-requires-clause-cell
join-requires-clause-cell g c =
    let below = c.requires.cell in let wide = c.requires.room.long in omega (arith, below, wide)

pub returns-clause-room : goal.returns-clause-room
returns-clause-room g c =
    room_stays c.args.self.now.query (room_from c.args.self.now.columns 1) c.args.cell _ c.args.cells.now c.join.new.self c.requires.room c.join.ensures.width c.join.ensures.groups

pub returns-clause-groups : goal.returns-clause-groups
returns-clause-groups g c =
    let known = row_of c.args.self.now c.args.row c.self.invariant c.self.view_is c.requires.row in
    let here = slice_index_or c.args.cells.now.groups c.args.cell None in
    let kinds = c.deref.ensures.value ∙ known.kinds_are in
    let numbers = ap (map (number_from c.args.row)) c.deref-2.ensures.value ∙ known.taken_are in
    c.join.ensures.groups ∙ (λ i. set c.args.cells.now.groups c.args.cell (joined_with (kinds i) (numbers i) here))

pub returns-clause-words : goal.returns-clause-words
returns-clause-words g c = (row_of c.args.self.now c.args.row c.self.invariant c.self.view_is c.requires.row).words
