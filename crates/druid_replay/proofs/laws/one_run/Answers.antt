use Rattle.std.proofs.Common.{None}
use Rattle.druid_replay.proofs.RunOnce.{runs_once}
use Rattle.druid_replay.proofs.RunSome.{runs_some}
use Rattle.druid_replay.proofs.laws.one_run.Goals as goal

pub returns-clause-some : goal.returns-clause-some
returns-clause-some c = runs_some None 1

pub returns-clause-same : goal.returns-clause-same
returns-clause-same c = runs_once None 1
