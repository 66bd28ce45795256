use Rattle.druid_segment_descriptor.proofs.ReplayLemmas.{replay_from-append, replay_from-front, replay_from-set}
use Rattle.druid_segment_descriptor.proofs.laws.replays_go_on.Goals as goal

pub returns : goal.returns
returns c = record { parts = replay_from-append; front = replay_from-front; kept = replay_from-set }
