use Rattle.std.proofs.Common.{rules}
use Rattle.std.specs.List.{flat_map}
use Rattle.druid_partial.specs.Groups.{IsResult}
use Rattle.druid_partial.specs.Partials.{kinds_of, IsPartialFor}
use Rattle.druid_partial.proofs.MovedLemmas.{halves_result}
use Rattle.druid_partial_scan.specs.SliceGroups.{slice_groups}
use Rattle.druid_partial_scan.proofs.parts.+fn-partial_in_parts-join+arg3+partial_in_parts.Goals as goal

pub returns-in-Ok-clause-result : goal.returns-in-Ok-clause-result
returns-in-Ok-clause-result g t c =
    let query = c.args.query.now in
    let row_group = slice_groups query in
    let front = c.split_at.result.0.now in
    let back = c.split_at.result.1.now in
    let left : IsResult (kinds_of query) (flat_map row_group front) c.in_ok-left.field-0.groups × IsPartialFor query c.in_ok-left.field-0 = search rules in
    let right : IsResult (kinds_of query) (flat_map row_group back) c.in_ok-right.field-0.groups × IsPartialFor query c.in_ok-right.field-0 = search rules in
    halves_result query row_group c.args.slices.now front back _ c.in_ok-left.field-0 c.in_ok-right.field-0 c.in-Ok.both
    c.split_at.ensures.front c.split_at.ensures.back left.0 left.1 right.0 c.in-Ok.ensures.groups
