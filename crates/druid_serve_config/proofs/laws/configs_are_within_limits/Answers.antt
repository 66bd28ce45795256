use Rattle.druid_serve_config.proofs.LimitLemmas.{within}
use Rattle.druid_serve_config.proofs.laws.configs_are_within_limits.Goals as goal

pub returns : goal.returns
returns c = within
