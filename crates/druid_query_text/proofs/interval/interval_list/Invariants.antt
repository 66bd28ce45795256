use Rattle.std.proofs.Common.{◌≡◌, ◌++◌, drop}
use Rattle.druid_query.specs.Fields.{interval_of}
use Rattle.druid_query_text.specs.Found.{readings}
use Rattle.druid_query_text.proofs.interval.interval_list.Given as goal

abbrev pub invariant-loop-text : goal.invariant-loop-text
invariant-loop-text l = l.all.items ++ readings interval_of (drop l.text-index l.texts) ≡ readings interval_of l.texts
