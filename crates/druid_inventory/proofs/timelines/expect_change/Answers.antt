use Rattle.std.proofs.Common.{ap, sym}
use Rattle.std.specs.Option.{is_some}
use Rattle.druid_inventory.specs.Timelines.{kept}
use Rattle.druid_inventory.proofs.TransactionLemmas.{written_back}
use Rattle.druid_inventory.proofs.timelines.expect_change.Goals as goal

pub returns-in-Some : goal.returns-in-Some
returns-in-Some c =
    let writes = (c.get_mut.follows.holds c.expect_change.new.self).3 (ap is_some (sym c.in-Some.ensures.value)) in
    written_back c.args.timelines.now (c.get_mut.follows.lender c.expect_change.new.self) c.args.source.now c.in-Some.timeline.now c.expect_change.new.self
    c.in-Some.ensures.value c.expect_change.ensures writes

pub returns-in-None : goal.returns-in-None
returns-in-None c s = ap (λ m. kept m s) c.get_mut.follows.holds-at-none
