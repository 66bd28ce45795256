-- What an exchange that is made holds, before and after: only proofs use this.
use Rattle.std.specs.Prelude.{option_map}
use Rattle.std.specs.BTreeSet.{contains}
use Rattle.druid_broker_scatter.specs.declared.requests.Exchange.{Exchange}
use Rattle.druid_broker_scatter.specs.Pending.{Ask, Missed, at_cmp}

abbrev pub ask_in : Exchange → Ask
ask_in x = (x.node, x.sub.asked)

abbrev pub missed_in : Exchange → Missed
missed_in x = (x.node, option_map (contains at_cmp) x.missed)
