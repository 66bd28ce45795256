use Rattle.std.proofs.Common.{length}
use Rattle.druid_broker_scatter.proofs.exchange.+ask_all+fn-ask_all-join_mut+arg2+fn-ask_all-join_mut+arg3.Given as goal

abbrev pub decreases-ask_all : goal.decreases-ask_all
decreases-ask_all g l = length l.exchanges.now

abbrev pub decreases-join_mut+arg2 : goal.decreases-join_mut+arg2
decreases-join_mut+arg2 g l = length l.front.now

abbrev pub decreases-join_mut+arg3 : goal.decreases-join_mut+arg3
decreases-join_mut+arg3 g l = length l.back.now
