use Rattle.druid_replay.proofs.AnswerSome.{line_some}
use Rattle.druid_replay.proofs.laws.each_line_is_bad_or_answered.Goals as goal

pub returns : goal.returns
returns c = line_some
