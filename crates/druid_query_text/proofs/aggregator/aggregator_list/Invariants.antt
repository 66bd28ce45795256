use Rattle.std.proofs.Common.{◌≡◌, ◌++◌, drop}
use Rattle.druid_query.specs.Fields.{aggregator_at}
use Rattle.druid_query_text.specs.Found.{readings}
use Rattle.druid_query_text.proofs.aggregator.aggregator_list.Given as goal

abbrev pub invariant-loop-item : goal.invariant-loop-item
invariant-loop-item l = l.all.items ++ readings aggregator_at (drop l.item-index l.items) ≡ readings aggregator_at l.items
