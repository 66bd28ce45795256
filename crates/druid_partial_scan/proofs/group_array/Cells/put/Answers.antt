use Rattle.std.proofs.Common.{◌∙◌, map, length, Some, ap, sym, arith, refl}
use Rattle.std.proofs.lemmas.List.{length-map}
use Rattle.druid_partial_scan.specs.Cells.{Cells, number_from}
use Rattle.druid_partial_scan.proofs.FlatLemmas.{place_of, parts_written, cell_written}
use Rattle.druid_partial_scan.proofs.group_array.Cells.put.Goals as goal

pub overflow_mul-from : goal.overflow_mul-from
overflow_mul-from g c = let h = (place_of c.self.inside.width c.self.inside.filled c.self.inside.kept c.self.inside.numbers c.args.self.now c.args.cell c.self.invariant c.self.view_is c.requires.cell).from_small in omega (arith, h)

pub overflow_add-to : goal.overflow_add-to
overflow_add-to g c = let h = (place_of c.self.inside.width c.self.inside.filled c.self.inside.kept c.self.inside.numbers c.args.self.now c.args.cell c.self.invariant c.self.view_is c.requires.cell).to_small in omega (arith, h)

pub write_at-requires-clause-inside : goal.write_at-requires-clause-inside
write_at-requires-clause-inside g c =
    let h = (place_of c.self.inside.width c.self.inside.filled c.self.inside.kept c.self.inside.numbers c.args.self.now c.args.cell c.self.invariant c.self.view_is c.requires.cell).to in
    let s = ap length c.deref_mut.ensures.value in
    omega (arith, h, s)

pub write_at-requires-clause-long : goal.write_at-requires-clause-long
write_at-requires-clause-long g c =
    let w = ap (λ (v : Cells g.row.K.Denot). v.width) c.self.view_is in
    let r = c.requires.width in
    omega (arith, w, r)

pub index_mut-requires : goal.index_mut-requires
index_mut-requires g c = (place_of c.self.inside.width c.self.inside.filled c.self.inside.kept c.self.inside.numbers c.args.self.now c.args.cell c.self.invariant c.self.view_is c.requires.cell).kept

pub index_mut-requires-2 : goal.index_mut-requires-2
index_mut-requires-2 g c = (place_of c.self.inside.width c.self.inside.filled c.self.inside.kept c.self.inside.numbers c.args.self.now c.args.cell c.self.invariant c.self.view_is c.requires.cell).mark

pub invariant_of-self : goal.invariant_of-self
invariant_of-self g c =
    parts_written c.self.inside.width c.self.inside.filled.items c.self.inside.kept.items c.self.inside.numbers c.deref_mut.result.now c.write_at.new.numbers c.args.cell c.args.kept c.self.invariant c.deref_mut.ensures.value c.write_at.auto.numbers

pub returns-clause-groups : goal.returns-clause-groups
returns-clause-groups g c =
    let w = ap (λ (v : Cells g.row.K.Denot). v.width) c.self.view_is in
    cell_written c.self.inside.width c.self.inside.filled.items c.self.inside.kept.items _ c.self.inside.numbers c.deref_mut.result.now c.write_at.new.numbers (map (number_from c.args.row) c.args.columns.now) c.args.self.now c.args.cell (Some c.args.kept)
    c.self.invariant c.self.view_is c.requires.cell c.deref_mut.ensures.value c.write_at.auto.numbers
    (length-map c.args.columns.now (number_from c.args.row) ∙ c.requires.width ∙ sym w) refl c.write_at.ensures
