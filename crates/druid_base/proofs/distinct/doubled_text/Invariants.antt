use Rattle.std.proofs.Common.{◌≡◌, drop}
use Rattle.druid_base.specs.Distinct.{are_distinct}
use Rattle.druid_base.proofs.distinct.doubled_text.Given as goal

abbrev pub invariant-loop-place : goal.invariant-loop-place
invariant-loop-place g l = are_distinct (drop l.place (g.T.TextList.texts l.texts)) ≡ are_distinct (g.T.TextList.texts l.texts)
