use Rattle.std.proofs.Common.{None, refl, subst}
use Rattle.std.specs.Option.{IsSome}
use Rattle.std.proofs.lemmas.Bool.{false≢true}
use Rattle.druid_inventory.specs.Timelines.{ServesWith}
use Rattle.druid_inventory.specs.Transactions.{IsBefore}
use Rattle.druid_inventory.proofs.TransactionLemmas.{AreEither-all, AreBefore-rolled_back, no_entries, others_stay}
use Rattle.druid_inventory.proofs.transactions.roll_back_each.Goals as goal

pub loop-source-preserved : goal.loop-source-preserved
loop-source-preserved c entries node s h =
    let edits = c.loop-source.edits in
    let rest = c.pop_first.new.self in
    let e = c.in-Some.transaction in
    let writes = c.in-Some.ensures.updates in
    AreBefore-rolled_back (ServesWith entries node s) c.loop-source.timelines c.settle.new.timelines edits rest c.in-Some.source e c.roll_back.result
    c.in-Some.ensures.value writes.1 (others_stay edits rest c.in-Some.source c.in-Some.source None refl writes) c.roll_back.ensures.before c.settle.ensures
    (c.loop-source.invariant entries node s h)

pub returns : goal.returns
returns c entries node s h =
    let P = ServesWith entries node s in
    AreEither-all P (IsBefore P) c.loop-source.timelines c.loop-source.edits
    (no_entries c.loop-source.edits.entries (λ more. false≢true (subst (λ o. IsSome o) c.in_default.is (c.pop_first.ensures.variant.1 more))))
    (c.loop-source.invariant entries node s h)
