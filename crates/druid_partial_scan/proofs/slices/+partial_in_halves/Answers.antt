use Rattle.druid_partial_scan.specs.SliceGroups.{slice_groups}
use Rattle.druid_partial.proofs.MovedLemmas.{halves_result}
use Rattle.druid_partial_scan.proofs.slices.+partial_in_halves.Goals as goal

pub returns-in-Ok-clause-result : goal.returns-in-Ok-clause-result
returns-in-Ok-clause-result t c =
    let query = c.args.query.now in
    halves_result query (slice_groups query) c.args.slices.now c.split_at.result.0.now c.split_at.result.1.now _
    c.in_ok-left.left c.in_ok-right.right c.in-Ok.both c.split_at.ensures.front c.split_at.ensures.back
    c.in_ok-left.ensures.result c.in_ok-left.ensures.of_query c.in_ok-right.ensures.result c.in-Ok.ensures.groups
