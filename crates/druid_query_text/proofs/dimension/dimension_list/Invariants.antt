use Rattle.std.proofs.Common.{◌≡◌, ◌++◌, drop}
use Rattle.druid_query.specs.Fields.{dimension_at}
use Rattle.druid_query_text.specs.Found.{readings}
use Rattle.druid_query_text.proofs.dimension.dimension_list.Given as goal

abbrev pub invariant-loop-item : goal.invariant-loop-item
invariant-loop-item l = l.all.items ++ readings dimension_at (drop l.item-index l.items) ≡ readings dimension_at l.items
