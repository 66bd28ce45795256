use Rattle.druid_partial.specs.Partials.{IsPartialFor}
use Rattle.druid_query_tests.proofs.slices.merged.Given as goal

abbrev pub invariant-loop-slice : goal.invariant-loop-slice
invariant-loop-slice g l = IsPartialFor l.query l.whole
