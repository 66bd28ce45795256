use Rattle.druid_partial.specs.Partials.{IsPartialFor}
use Rattle.druid_query_tests.proofs.partial.reported.Given as goal

abbrev pub invariant-loop-text : goal.invariant-loop-text
invariant-loop-text g l = IsPartialFor l.query l.whole
