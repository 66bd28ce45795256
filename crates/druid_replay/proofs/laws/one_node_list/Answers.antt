use Rattle.druid_replay.proofs.NodeLists.{line_keeps, line_other}
use Rattle.druid_replay.proofs.laws.one_node_list.Goals as goal

pub returns-clause-keeps : goal.returns-clause-keeps
returns-clause-keeps c = line_keeps

pub returns-clause-joins : goal.returns-clause-joins
returns-clause-joins c = line_other
