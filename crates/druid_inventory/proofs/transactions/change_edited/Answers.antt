use Rattle.std.proofs.Common.{ap, sym, ◌∙◌}
use Rattle.std.specs.Option.{is_some}
use Rattle.std.proofs.lemmas.Result.{on_ok_weaker}
use Rattle.druid_segment_id.specs.Identifier.{Identifier}
use Rattle.druid_segment_descriptor.specs.Described.{Described}
use Rattle.druid_inventory.specs.Transactions.{Goes, Makes}
use Rattle.druid_inventory.proofs.TransactionLemmas.{GoesOn-written}
use Rattle.druid_inventory.proofs.transactions.change_edited.Goals as goal

pub returns-clause-ok : goal.returns-clause-ok
returns-clause-ok c =
    let same = c.source.ensures.value ∙ ap (λ (id : Identifier). id.source) (c.id.ensures.value ∙ ap (λ (d : Described). d.id) c.segment_of.ensures) in
    let writes = (c.get_mut.follows.holds c.change_transaction.new.transaction).3 (ap is_some (sym c.in-Some.ensures.value)) in
    on_ok_weaker c.change_transaction.result
    (λ made. GoesOn-written c.args.edits.now (c.get_mut.follows.lender c.change_transaction.new.transaction) _ c.source.result.now c.in-Some.transaction.now
    c.change_transaction.new.transaction (Makes c.args.node c.args.change.now) same c.in-Some.ensures.value writes
    (record { goes = c.change_transaction.ensures.goes; held = made }))
    c.change_transaction.ensures.ok

pub returns-clause-goes : goal.returns-clause-goes
returns-clause-goes c =
    let same = c.source.ensures.value ∙ ap (λ (id : Identifier). id.source) (c.id.ensures.value ∙ ap (λ (d : Described). d.id) c.segment_of.ensures) in
    let writes = (c.get_mut.follows.holds c.change_transaction.new.transaction).3 (ap is_some (sym c.in-Some.ensures.value)) in
    GoesOn-written c.args.edits.now (c.get_mut.follows.lender c.change_transaction.new.transaction) _ c.source.result.now c.in-Some.transaction.now
    c.change_transaction.new.transaction Goes same c.in-Some.ensures.value writes c.change_transaction.ensures.goes
