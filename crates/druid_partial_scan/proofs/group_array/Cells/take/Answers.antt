use Rattle.std.proofs.Common.{◌∙◌, ◌+◌, ◌-◌, ◌*◌, set, length, take, drop, None, false, ap, sym, arith, refl}
use Rattle.druid_partial_scan.specs.Cells.{Cells}
use Rattle.druid_partial_scan.proofs.FlatLemmas.{place_of, parts_put, taken_groups, taken_is, none_is}
use Rattle.druid_partial_scan.proofs.group_array.Cells.take.Goals as goal

pub index_mut-requires : goal.index_mut-requires
index_mut-requires g c = (place_of c.self.inside.width c.self.inside.filled c.self.inside.kept c.self.inside.numbers c.args.self.now c.args.cell c.self.invariant c.self.view_is c.requires).kept

pub returns-in_default-clause-found : goal.returns-in_default-clause-found
returns-in_default-clause-found g c =
    let e = ap (λ (v : Cells g.row.K.Denot). v.groups) c.self.view_is in
    none_is c.self.inside.width c.self.inside.filled.items c.self.inside.kept.items c.self.inside.numbers.items c.args.self.now.groups c.args.cell c.index_mut.result.now c.index_mut.result.now c.self.invariant e c.requires
    c.index_mut.ensures.value (sym c.take.ensures.value ∙ c.in_default.is)

pub returns-in_default-clause-groups : goal.returns-in_default-clause-groups
returns-in_default-clause-groups g c =
    let e = ap (λ (v : Cells g.row.K.Denot). v.groups) c.self.view_is in
    taken_groups c.self.inside.width c.self.inside.filled.items c.self.inside.kept.items _ c.self.inside.numbers.items c.args.self.now.groups c.args.cell c.self.invariant e c.requires (ap (set c.self.inside.kept.items c.args.cell) c.take.ensures.after)

pub index_mut-requires-2 : goal.index_mut-requires-2
index_mut-requires-2 g c = (place_of c.self.inside.width c.self.inside.filled c.self.inside.kept c.self.inside.numbers c.args.self.now c.args.cell c.self.invariant c.self.view_is c.requires).mark

pub overflow_mul-from : goal.overflow_mul-from
overflow_mul-from g c = let h = (place_of c.self.inside.width c.self.inside.filled c.self.inside.kept c.self.inside.numbers c.args.self.now c.args.cell c.self.invariant c.self.view_is c.requires).from_small in omega (arith, h)

pub overflow_add-to : goal.overflow_add-to
overflow_add-to g c = let h = (place_of c.self.inside.width c.self.inside.filled c.self.inside.kept c.self.inside.numbers c.args.self.now c.args.cell c.self.invariant c.self.view_is c.requires).to_small in omega (arith, h)

pub copied-requires-clause-inside : goal.copied-requires-clause-inside
copied-requires-clause-inside g c =
    let h = (place_of c.self.inside.width c.self.inside.filled c.self.inside.kept c.self.inside.numbers c.args.self.now c.args.cell c.self.invariant c.self.view_is c.requires).to in
    let s = ap length c.deref.ensures.value in
    omega (arith, h, s)

pub invariant_of-self-in_err-numbers : goal.invariant_of-self-in_err-numbers
invariant_of-self-in_err-numbers g c =
    parts_put c.self.inside.width c.self.inside.filled.items _ c.self.inside.kept.items _ c.self.inside.numbers.items _ c.args.cell None false c.self.invariant (ap (set c.self.inside.kept.items c.args.cell) c.take.ensures.after) refl refl refl

pub invariant_of-self-2 : goal.invariant_of-self-2
invariant_of-self-2 g c =
    parts_put c.self.inside.width c.self.inside.filled.items _ c.self.inside.kept.items _ c.self.inside.numbers.items _ c.args.cell None false c.self.invariant (ap (set c.self.inside.kept.items c.args.cell) c.take.ensures.after) refl refl refl

pub returns-clause-found : goal.returns-clause-found
returns-clause-found g c =
    let e = ap (λ (v : Cells g.row.K.Denot). v.groups) c.self.view_is in
    let from = c.args.cell * c.self.inside.width in
    taken_is c.self.inside.width c.self.inside.filled.items c.self.inside.kept.items c.self.inside.numbers.items c.in_ok-numbers.numbers.items c.args.self.now.groups c.args.cell c.index_mut.result.now c.index_mut.result.now c.in-Some.kept c.self.invariant e c.requires
    c.index_mut.ensures.value (sym c.take.ensures.value ∙ c.in-Some.is)
    (c.in_ok-numbers.ensures ∙ ap (λ l. take (from + c.self.inside.width - from) (drop from l)) c.deref.ensures.value)

pub returns-clause-groups : goal.returns-clause-groups
returns-clause-groups g c =
    let e = ap (λ (v : Cells g.row.K.Denot). v.groups) c.self.view_is in
    taken_groups c.self.inside.width c.self.inside.filled.items c.self.inside.kept.items _ c.self.inside.numbers.items c.args.self.now.groups c.args.cell c.self.invariant e c.requires (ap (set c.self.inside.kept.items c.args.cell) c.take.ensures.after)
