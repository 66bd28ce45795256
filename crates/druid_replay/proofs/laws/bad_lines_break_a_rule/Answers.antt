use Rattle.druid_replay.proofs.ReasonLemmas.{opening_first, command_first}
use Rattle.druid_replay.proofs.laws.bad_lines_break_a_rule.Goals as goal

pub returns-clause-brokers : goal.returns-clause-brokers
returns-clause-brokers c = opening_first

pub returns-clause-command : goal.returns-clause-command
returns-clause-command c = command_first
