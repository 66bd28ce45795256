use Rattle.std.proofs.Common.{map, length, true, false, ap, arith}
use Rattle.druid_partial_scan.specs.Cells.{number_from, join_into}
use Rattle.druid_partial_scan.proofs.FlatLemmas.{place_of, mark_is, absent, into_long, numbers_written}
use Rattle.druid_partial_scan.proofs.group_array.Cells.join.Goals as goal

pub index-requires : goal.index-requires
index-requires g c = (place_of c.self.inside.width c.self.inside.filled c.self.inside.kept c.self.inside.numbers c.args.self.now c.args.cell c.self.invariant c.self.view_is c.requires.cell).mark

pub returns-then-not-index-clause-there : goal.returns-then-not-index-clause-there
returns-then-not-index-clause-there g c = mark_is c.self.inside.width c.self.inside.filled.items c.self.inside.kept.items c.self.inside.numbers.items c.args.self.now c.args.cell _ false c.self.invariant c.self.view_is c.requires.cell c.index.ensures c.if-not-index.true

pub returns-then-not-index-clause-groups : goal.returns-then-not-index-clause-groups
returns-then-not-index-clause-groups g c =
    absent c.args.self.now.groups c.args.cell c.args.kinds.now (map (number_from c.args.row) c.args.columns.now)
    (mark_is c.self.inside.width c.self.inside.filled.items c.self.inside.kept.items c.self.inside.numbers.items c.args.self.now c.args.cell _ false c.self.invariant c.self.view_is c.requires.cell c.index.ensures c.if-not-index.true)

pub overflow_mul-from : goal.overflow_mul-from
overflow_mul-from g c = let h = (place_of c.self.inside.width c.self.inside.filled c.self.inside.kept c.self.inside.numbers c.args.self.now c.args.cell c.self.invariant c.self.view_is c.requires.cell).from_small in omega (arith, h)

pub overflow_add-to : goal.overflow_add-to
overflow_add-to g c = let h = (place_of c.self.inside.width c.self.inside.filled c.self.inside.kept c.self.inside.numbers c.args.self.now c.args.cell c.self.invariant c.self.view_is c.requires.cell).to_small in omega (arith, h)

pub join_at-requires-clause-inside : goal.join_at-requires-clause-inside
join_at-requires-clause-inside g c =
    let h = (place_of c.self.inside.width c.self.inside.filled c.self.inside.kept c.self.inside.numbers c.args.self.now c.args.cell c.self.invariant c.self.view_is c.requires.cell).to in
    let s = ap length c.deref_mut.ensures.value in
    omega (arith, h, s)

pub returns-clause-there : goal.returns-clause-there
returns-clause-there g c = mark_is c.self.inside.width c.self.inside.filled.items c.self.inside.kept.items c.self.inside.numbers.items c.args.self.now c.args.cell _ true c.self.invariant c.self.view_is c.requires.cell c.index.ensures c.if-not-index.false

pub returns-clause-groups : goal.returns-clause-groups
returns-clause-groups g c =
    let kinds = c.args.kinds.now in
    let row = map (number_from c.args.row) c.args.columns.now in
    numbers_written c.self.inside.width c.self.inside.filled.items c.self.inside.kept.items c.self.inside.numbers c.deref_mut.result.now c.join_at.new.numbers c.args.self.now c.args.cell (join_into kinds row) (into_long kinds row)
    c.self.invariant c.self.view_is c.requires.cell c.deref_mut.ensures.value c.join_at.auto.numbers c.join_at.ensures
