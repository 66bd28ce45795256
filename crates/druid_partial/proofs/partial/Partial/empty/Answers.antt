use Rattle.druid_partial.proofs.OrderLemmas.{no_groups}
use Rattle.druid_partial.proofs.partial.Partial.empty.Goals as goal

pub new-requires-2 : goal.new-requires-2
new-requires-2 c = no_groups _ _ c.new.ensures.items
