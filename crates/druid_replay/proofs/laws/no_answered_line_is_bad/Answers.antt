use Rattle.druid_replay.proofs.AnswerOnce.{answered_not_bad}
use Rattle.druid_replay.proofs.laws.no_answered_line_is_bad.Goals as goal

pub returns : goal.returns
returns c = answered_not_bad
