use Rattle.std.proofs.Common.{arith}
use Rattle.druid_query_text.proofs.WrittenLemmas.{filters_all}
use Rattle.druid_query_text.proofs.filter.+filter_value.Goals as goal

pub filter_values-returns : goal.filter_values-returns
filter_values-returns t c = filters_all c.loop-filter.all.items c.args.filters.now c.loop-filter.filter-index (omega (arith, c.loop-filter-test.false)) c.loop-filter.invariant
