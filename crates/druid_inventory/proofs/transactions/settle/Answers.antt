use Rattle.std.proofs.Common.{ap, sym, ◌∙◌}
use Rattle.std.specs.Option.{is_some}
use Rattle.std.proofs.lemmas.Bool.{false≢true}
use Rattle.druid_inventory.proofs.TransactionLemmas.{Settles-none, Settles-some}
use Rattle.druid_inventory.proofs.transactions.settle.Goals as goal

pub returns-then-is_empty : goal.returns-then-is_empty
returns-then-is_empty c =
    Settles-none c.args.timelines.now c.remove.new.self c.args.source.now c.args.timeline (c.is_empty.ensures.0 c.if-is_empty.true) c.remove.ensures.updates

pub returns : goal.returns
returns c =
    Settles-some c.args.timelines.now (c.get_mut.follows.lender c.new.result) c.args.source.now c.args.timeline c.new.result
    (λ nothing. false≢true (sym c.if-is_empty.false ∙ c.is_empty.ensures.1 nothing)) c.requires.source c.new.ensures
    ((c.get_mut.follows.holds c.new.result).3 (ap is_some (sym c.in-Some.ensures.value)))
