use Rattle.druid_segment_descriptor.proofs.ReplayLemmas.{replay_from-set}
use Rattle.druid_inventory.proofs.known.KnownNode.advance.Goals as goal

pub invariant_of-self-2 : goal.invariant_of-self-2
invariant_of-self-2 c = record {
  set = replay_from-set c.self.inside.set.items c.advance_set.new.set.items c.args.changes.now c.self.invariant.set c.in_ok-advance_set.ensures.made;
  incarnation = λ _. c.requires.incarnation;
}
