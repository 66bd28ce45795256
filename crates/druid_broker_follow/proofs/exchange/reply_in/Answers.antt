use Rattle.std.proofs.Common.{refl, inr}
use Rattle.druid_broker_follow.proofs.exchange.reply_in.Goals as goal

pub returns-in-Err : goal.returns-in-Err
returns-in-Err c = inr (c.args.bytes.now, refl, (c.in-Err.ensures.err, c.in-Err.ensures.never, c.in-Err.ensures.none))
