use Rattle.druid_segment_id.specs.Group.{group_of}
use Rattle.druid_timeline.specs.Holding.{held_of}
use Rattle.druid_base_tests.proofs.OthersLemmas.{AreAmong-added, HasOthers-among, of_ok}
use Rattle.druid_base_tests.proofs.edit_bound.add.Goals as goal

pub returns-clause-among : goal.returns-clause-among
returns-clause-among w c g others among one =
    AreAmong-added c.args.timeline.now.held c.add.new.self.held (held_of 0 c.args.segment.now) g others
    (of_ok c.add.result c.expect.result c.expect.ensures c.add.ensures.added) among one

pub returns-clause-counted : goal.returns-clause-counted
returns-clause-counted w c others among =
    c.add.ensures.bound others (HasOthers-among c.args.timeline.now.held (group_of c.args.segment.now.id) others among)
