use Rattle.std.proofs.Common.{◌≡◌, ◌-◌, ◌<◌, length, arith, sym, subst, ◌∙◌, ap}
use Rattle.std.proofs.lemmas.List.{get_or_default}
use Rattle.druid_folder_store.specs.declared.record.Call.{Call}
use Rattle.druid_folder_store.specs.Record.{is_sync, lost}
use Rattle.druid_folder_store.proofs.Lost.{AreLost, none_lost, one_lost, lost_to_sync, all_lost}
use Rattle.druid_folder_store.proofs.record.lose_unsynced.Goals as goal

pub loop-i-init : goal.loop-i-init
loop-i-init c = none_lost c.args.calls.now

pub bounds-calls-i : goal.bounds-calls-i
bounds-calls-i c = omega (arith, c.loop-i.invariant.within, c.loop-i-test.true)

pub returns-then-is_sync : goal.returns-then-is_sync
returns-then-is_sync c =
    lost_to_sync c.args.calls.now c.loop-i.calls (c.loop-i.i - 1) c.loop-i.i c.index-calls-i.result (omega (arith, c.loop-i-test.true)) (sym c.index-calls-i.is) c.loop-i.invariant
    (ap is_sync c.index-calls-i.is ∙ sym c.is_sync.ensures ∙ c.if-is_sync.true)

pub bounds-calls-i-in-loop-i : goal.bounds-calls-i-in-loop-i
bounds-calls-i-in-loop-i c = omega (arith, c.loop-i.invariant.within, c.loop-i-test.true)

pub lose-requires : goal.lose-requires
lose-requires c =
    let within : c.loop-i.i - 1 < length c.loop-i.calls = omega (arith, c.loop-i.invariant.within, c.loop-i-test.true) in
    ap is_sync (get_or_default c.loop-i.calls (c.loop-i.i - 1) c.index-calls-i-in-loop-i.result c.index-calls-i.result within) ∙ sym c.is_sync.ensures ∙ c.if-is_sync.false

pub loop-i-preserved : goal.loop-i-preserved
loop-i-preserved c =
    one_lost c.args.calls.now c.loop-i.calls (c.loop-i.i - 1) c.loop-i.i c.index-calls-i-in-loop-i.result (omega (arith, c.loop-i-test.true)) (sym c.index-calls-i-in-loop-i.is) c.loop-i.invariant
    c.lose.new.call (λ files kept. c.lose.ensures files kept ∙ ap (λ (call : Call). lost call files kept) (sym c.index-calls-i-in-loop-i.is))

pub returns : goal.returns
returns c =
    let none : c.loop-i.i ≡ 0 = omega (arith, c.loop-i-test.false) in
    all_lost c.args.calls.now c.loop-i.calls (subst (AreLost c.args.calls.now c.loop-i.calls) none c.loop-i.invariant)
