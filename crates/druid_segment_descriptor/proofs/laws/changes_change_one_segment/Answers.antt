use Rattle.druid_segment_descriptor.proofs.ReplayLemmas.{changed-one, strict_load, strict_drop, sorted-one_list}
use Rattle.druid_segment_descriptor.proofs.laws.changes_change_one_segment.Goals as goal

pub returns : goal.returns
returns c = record { change = changed-one; load = strict_load; drop = strict_drop; one = sorted-one_list }
