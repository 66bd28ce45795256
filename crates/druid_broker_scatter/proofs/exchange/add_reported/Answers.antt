use Rattle.druid_broker_scatter.proofs.ReadLemmas.{reported_beside_if, nothing_beside}
use Rattle.druid_broker_scatter.proofs.exchange.add_reported.Goals as goal

pub returns-in-Some-clause-reported : goal.returns-in-Some-clause-reported
returns-in-Some-clause-reported c =
    reported_beside_if c.args.query.now c.args.reported c.args.partial c.in-Some.reported c.merge_both.result c.in-Some.is c.requires.of_query.kinds c.merge_both.ensures.groups

pub returns-in-None-clause-reported : goal.returns-in-None-clause-reported
returns-in-None-clause-reported c = nothing_beside c.args.query.now c.args.reported c.args.partial c.in-None.is
