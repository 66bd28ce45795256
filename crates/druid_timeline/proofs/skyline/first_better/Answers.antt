use Rattle.std.proofs.Common.{sym, ◌∙◌, subst, arith}
use Rattle.std.proofs.lemmas.Bool.{false≢true}
use Rattle.std.proofs.lemmas.List.{get_or_default}
use Rattle.std.proofs.lemmas.List.Elements.{AllWithin-more}
use Rattle.druid_segment_id.specs.Group.{Outranks}
use Rattle.druid_timeline.proofs.SkylineLemmas.{borrowed, borrowed_at, borrowed_within, none_after}
use Rattle.druid_timeline.proofs.skyline.first_better.Goals as goal

pub returns-then-not-beats-clause-rest : goal.returns-then-not-beats-clause-rest
returns-then-not-beats-clause-rest c =
    none_after (borrowed c.args.sky.now) c.loop-to.to c.index-sky-to.result.now c.args.key.now c.requires.order (borrowed_within c.args.sky.now c.loop-to.to c.loop-to-test.true)
    (borrowed_at c.args.sky.now c.loop-to.to c.index-sky-to.result c.loop-to-test.true c.index-sky-to.is)
    (λ above. false≢true (sym c.if-not-beats.true ∙ c.beats.ensures.answer.1 above))

pub loop-to-preserved : goal.loop-to-preserved
loop-to-preserved c =
    let low = c.loop-to.invariant.low in
    let counted = c.loop-to.invariant.counted in
    let bound = c.loop-to.invariant.bound in
    let more = c.beats.ensures.counted in
    let l = borrowed_within c.args.sky.now c.loop-to.to c.loop-to-test.true in
    let at = borrowed_at c.args.sky.now c.loop-to.to c.index-sky-to.result c.loop-to-test.true c.index-sky-to.is in
    record {
      low = omega (arith, low);
      high = omega (arith, c.loop-to-test.true);
      beaten =
          AllWithin-more (Outranks c.args.key.now) (borrowed c.args.sky.now) c.args.place c.loop-to.to c.loop-to.invariant.beaten
          (λ d. subst (Outranks c.args.key.now) (at ∙ get_or_default (borrowed c.args.sky.now) c.loop-to.to c.index-sky-to.result.now d l) (c.beats.ensures.answer.0 c.if-not-beats.false));
      counted = omega (arith, counted, more);
      bound = omega (arith, bound, more, low);
    }
