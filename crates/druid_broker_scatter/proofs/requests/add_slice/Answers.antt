use Rattle.std.proofs.Common.{rules, sym}
use Rattle.druid_broker_scatter.proofs.RequestLemmas.{first_slice, first_some}
use Rattle.druid_broker_scatter.proofs.requests.add_slice.Goals as goal

pub returns-clause-added : goal.returns-clause-added
returns-clause-added c =
    first_slice c.args.slices.now _ c.insert.new.self c.args.node c.push-2.new.self c.args.asked.now c.get_mut.follows.holds-at-none (sym c.in_default.ensures.value) c.in_ok-insert.ensures.updates
    (search rules)

pub returns-clause-none_empty : goal.returns-clause-none_empty
returns-clause-none_empty c =
    first_some c.args.slices.now _ c.insert.new.self c.args.node c.push-2.new.self c.args.asked.now c.get_mut.follows.holds-at-none c.in_ok-insert.ensures.updates (search rules)
