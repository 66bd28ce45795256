use Rattle.std.proofs.Common.{◌∙◌, ◌++◌, ℤ, [], ◌∷◌, Some, ap}
use Rattle.std.specs.Int.{w64}
use Rattle.std.proofs.lemmas.Int.{to_z-of_z}
use Rattle.druid_segment_rows.specs.Metrics.{unless_null}
use Rattle.druid_segment_rows.proofs.MetricLemmas.{number_more}
use Rattle.druid_segment_rows.proofs.numbers.Numbers.push_number.Goals as goal

pub returns-clause-ok : goal.returns-clause-ok
returns-clause-ok c =
    let it = c.self.inside in
    ap (λ ns. unless_null ns it.nulls.items) c.in_ok-push.ensures.items
    ∙ ap (λ (n : ℤ). unless_null (it.numbers.items ++ n ∷ []) it.nulls.items) (to_z-of_z w64 c.args.number c.ranges.number)
    ∙ number_more it.numbers.items it.nulls.items c.args.number c.self.invariant.0
    ∙ ap (λ vs. vs ++ Some c.args.number ∷ []) c.self.view_is
