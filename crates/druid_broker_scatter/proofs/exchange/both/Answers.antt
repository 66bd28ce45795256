use Rattle.std.proofs.Common.{Err, refl}
use Rattle.druid_broker_scatter.proofs.ReadLemmas.{both_read, right_lacks}
use Rattle.druid_broker_scatter.proofs.exchange.both.Goals as goal

pub returns-in-Ok-Ok : goal.returns-in-Ok-Ok
returns-in-Ok-Ok c =
    both_read c.args.query.now c.in-Ok-Ok.left c.in-Ok-Ok.right c.args.left c.args.right c.merge_reported.result c.in-Ok-Ok.is-0 c.in-Ok-Ok.is-1
    c.merge_reported.ensures.reported c.merge_reported.ensures.some c.merge_reported.ensures.err

pub returns-in_default-Err : goal.returns-in_default-Err
returns-in_default-Err c = right_lacks c.args.query.now c.args.left c.args.right (Err c.in_default-Err.fault) c.in_default-Err.fault c.in_default-Err.is-1 refl
