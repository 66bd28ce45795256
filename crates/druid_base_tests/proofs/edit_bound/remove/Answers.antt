use Rattle.druid_segment_id.specs.Group.{group_of}
use Rattle.druid_base_tests.proofs.OthersLemmas.{HasOthers-among}
use Rattle.druid_base_tests.proofs.edit_bound.remove.Goals as goal

pub returns : goal.returns
returns w c = record {
  counted = λ others among. c.remove.ensures.bound others (HasOthers-among c.args.timeline.now.held (group_of c.args.id.now) others among);
}
