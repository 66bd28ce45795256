use Rattle.std.proofs.Common.{◌∙◌, length, Some, true, false, ap, sym, arith, refl}
use Rattle.druid_partial.specs.Joined.{join_numbers}
use Rattle.druid_partial_scan.specs.Cells.{Cells}
use Rattle.druid_partial_scan.proofs.FlatLemmas.{place_of, mark_is, parts_written, cell_written, numbers_written}
use Rattle.druid_partial_scan.proofs.JoinedLemmas.{numbers_long, met, unmet}
use Rattle.druid_partial_scan.proofs.group_array.Cells.join_group.Goals as goal

pub overflow_mul-from : goal.overflow_mul-from
overflow_mul-from g c = let h = (place_of c.self.inside.width c.self.inside.filled c.self.inside.kept c.self.inside.numbers c.args.self.now c.args.cell c.self.invariant c.self.view_is c.requires.cell).from_small in omega (arith, h)

pub overflow_add-to : goal.overflow_add-to
overflow_add-to g c = let h = (place_of c.self.inside.width c.self.inside.filled c.self.inside.kept c.self.inside.numbers c.args.self.now c.args.cell c.self.invariant c.self.view_is c.requires.cell).to_small in omega (arith, h)

pub index-requires : goal.index-requires
index-requires g c = (place_of c.self.inside.width c.self.inside.filled c.self.inside.kept c.self.inside.numbers c.args.self.now c.args.cell c.self.invariant c.self.view_is c.requires.cell).mark

pub join_numbers_at-requires-clause-inside : goal.join_numbers_at-requires-clause-inside
join_numbers_at-requires-clause-inside g c =
    let h = (place_of c.self.inside.width c.self.inside.filled c.self.inside.kept c.self.inside.numbers c.args.self.now c.args.cell c.self.invariant c.self.view_is c.requires.cell).to in
    let s = ap length c.deref_mut.ensures.value in
    omega (arith, h, s)

pub returns-then-index-clause-groups : goal.returns-then-index-clause-groups
returns-then-index-clause-groups g c =
    let kinds = c.args.kinds.now in
    let more = c.args.numbers.now in
    numbers_written c.self.inside.width c.self.inside.filled.items c.self.inside.kept.items c.self.inside.numbers c.deref_mut.result.now c.join_numbers_at.new.numbers c.args.self.now c.args.cell (λ xs. join_numbers kinds xs more) (λ xs. numbers_long kinds xs more)
    c.self.invariant c.self.view_is c.requires.cell c.deref_mut.ensures.value c.join_numbers_at.auto.numbers c.join_numbers_at.ensures
    ∙ met c.args.self.now.groups c.args.cell kinds c.args.kept more (mark_is c.self.inside.width c.self.inside.filled.items c.self.inside.kept.items c.self.inside.numbers.items c.args.self.now c.args.cell _ true c.self.invariant c.self.view_is c.requires.cell c.index.ensures c.if-index.true)

pub write_numbers_at-requires-clause-inside : goal.write_numbers_at-requires-clause-inside
write_numbers_at-requires-clause-inside g c =
    let h = (place_of c.self.inside.width c.self.inside.filled c.self.inside.kept c.self.inside.numbers c.args.self.now c.args.cell c.self.invariant c.self.view_is c.requires.cell).to in
    let s = ap length c.deref_mut-2.ensures.value in
    omega (arith, h, s)

pub write_numbers_at-requires-clause-long : goal.write_numbers_at-requires-clause-long
write_numbers_at-requires-clause-long g c =
    let w = ap (λ (v : Cells g.row.K.Denot). v.width) c.self.view_is in
    let r = c.requires.width in
    omega (arith, w, r)

pub index_mut-requires : goal.index_mut-requires
index_mut-requires g c = (place_of c.self.inside.width c.self.inside.filled c.self.inside.kept c.self.inside.numbers c.args.self.now c.args.cell c.self.invariant c.self.view_is c.requires.cell).kept

pub index_mut-requires-2 : goal.index_mut-requires-2
index_mut-requires-2 g c = (place_of c.self.inside.width c.self.inside.filled c.self.inside.kept c.self.inside.numbers c.args.self.now c.args.cell c.self.invariant c.self.view_is c.requires.cell).mark

pub invariant_of-self-2 : goal.invariant_of-self-2
invariant_of-self-2 g c =
    parts_written c.self.inside.width c.self.inside.filled.items c.self.inside.kept.items c.self.inside.numbers c.deref_mut-2.result.now c.write_numbers_at.new.numbers c.args.cell c.args.kept c.self.invariant c.deref_mut-2.ensures.value c.write_numbers_at.auto.numbers

pub returns-clause-groups : goal.returns-clause-groups
returns-clause-groups g c =
    let w = ap (λ (v : Cells g.row.K.Denot). v.width) c.self.view_is in
    cell_written c.self.inside.width c.self.inside.filled.items c.self.inside.kept.items _ c.self.inside.numbers c.deref_mut-2.result.now c.write_numbers_at.new.numbers c.args.numbers.now c.args.self.now c.args.cell (Some c.args.kept)
    c.self.invariant c.self.view_is c.requires.cell c.deref_mut-2.ensures.value c.write_numbers_at.auto.numbers (c.requires.width ∙ sym w) refl c.write_numbers_at.ensures
    ∙ unmet c.args.self.now.groups c.args.cell c.args.kinds.now c.args.kept c.args.numbers.now (mark_is c.self.inside.width c.self.inside.filled.items c.self.inside.kept.items c.self.inside.numbers.items c.args.self.now c.args.cell _ false c.self.invariant c.self.view_is c.requires.cell c.index.ensures c.if-index.false)
