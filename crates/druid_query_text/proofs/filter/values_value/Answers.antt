use Rattle.std.proofs.Common.{arith}
use Rattle.druid_query_text.proofs.WrittenLemmas.{values_all}
use Rattle.druid_query_text.proofs.filter.values_value.Goals as goal

pub returns : goal.returns
returns c = values_all c.loop-value.all.items c.args.values.now c.loop-value.value-index (omega (arith, c.loop-value-test.false)) c.loop-value.invariant
