use Rattle.std.proofs.Common.{refl, subst, sym, ◌∙◌}
use Rattle.std.proofs.lemmas.Bool.{false≢true}
use Rattle.std.proofs.lemmas.List.{take_all}
use Rattle.druid_segment_rows.specs.Rows.{texts_by, AreShort}
use Rattle.druid_segment_rows.proofs.ShortLemmas.{none_short, one_short, one_long}
use Rattle.druid_segment_rows.proofs.row_ref.are_short.Goals as goal

pub loop-value-init : goal.loop-value-init
loop-value-init g c = none_short

pub loop-value-preserved : goal.loop-value-preserved
loop-value-preserved g c =
    one_short g.T.AsStr.text c.args.values.now c.loop-value.value-index c.value-item.result c.loop-value-test.true c.value-item.is c.loop-value.invariant (c.is_short.ensures.0 c.if-not-is_short.false)

pub returns-then-not-is_short : goal.returns-then-not-is_short
returns-then-not-is_short g c =
    (λ yes. absurd cc, λ all. absurd (one_long g.T.AsStr.text c.args.values.now c.loop-value.value-index c.value-item.result c.loop-value-test.true c.value-item.is all (λ short. false≢true (sym c.if-not-is_short.true ∙ c.is_short.ensures.1 short))))

pub returns : goal.returns
returns g c =
    (λ yes. subst (λ vs. AreShort (texts_by g.T.AsStr.text vs)) (take_all c.loop-value.value-index c.args.values.now c.loop-value-test.false) c.loop-value.invariant, λ all. refl)
