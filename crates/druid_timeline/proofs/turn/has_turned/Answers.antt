use Rattle.druid_timeline.proofs.TurnLemmas.{turned_test}
use Rattle.druid_timeline.proofs.turn.has_turned.Goals as goal

pub returns : goal.returns
returns c = turned_test c.args.is_complete c.args.was_complete
