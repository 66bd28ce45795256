use Rattle.druid_broker_scatter.proofs.ReadLemmas.{reported_both}
use Rattle.druid_broker_scatter.proofs.exchange.merge_reported.Goals as goal

pub returns-in_ok-merge_both-in-Some-Some-clause-reported : goal.returns-in_ok-merge_both-in-Some-Some-clause-reported
returns-in_ok-merge_both-in-Some-Some-clause-reported c =
    reported_both c.args.query.now c.args.left c.args.right c.in-Some-Some.left c.in-Some-Some.right c.in_ok-merge_both-in-Some-Some.field-0 c.in-Some-Some.is-0 c.in-Some-Some.is-1 c.requires.left
    c.in_ok-merge_both-in-Some-Some.ensures.groups
