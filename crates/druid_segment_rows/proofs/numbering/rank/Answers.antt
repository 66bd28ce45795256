use Rattle.druid_segment_rows.specs.Numbering.{code_by_rank}
use Rattle.druid_segment_rows.proofs.PlaceLemmas.{mapped_next}
use Rattle.druid_segment_rows.proofs.numbering.rank.Goals as goal

pub loop-place-preserved : goal.loop-place-preserved
loop-place-preserved c =
    mapped_next (code_by_rank c.args.ranks.now) c.args.codes.now c.loop-place.codes c.loop-place.place c.rank_one.result 0 c.loop-place-test.true c.loop-place.invariant c.rank_one.ensures
