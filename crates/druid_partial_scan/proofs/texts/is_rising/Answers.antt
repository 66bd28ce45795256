use Rattle.std.proofs.Common.{◌∙◌, sym, arith}
use Rattle.druid_partial_scan.proofs.TextLemmas.{rising_first, rising_next, is_less}
use Rattle.druid_partial_scan.proofs.texts.is_rising.Goals as goal

pub loop-place-init : goal.loop-place-init
loop-place-init c = record { first = omega arith; rising = rising_first c.args.texts.now }

pub loop-place-preserved : goal.loop-place-preserved
loop-place-preserved c = record {
  first = omega arith;
  rising = rising_next c.args.texts.now c.loop-place.place _ c.loop-place.invariant.first c.loop-place-test.true c.loop-place.invariant.rising (sym c.cmp.ensures ∙ is_less c.cmp.result c.if-ne.ensures);
}
