use Rattle.std.proofs.Common.{rules}
use Rattle.serde_json.specs.View.{view}
use Rattle.druid_serve_config.specs.Configs.{broker_at}
use Rattle.druid_serve_config.proofs.LimitLemmas.{broker_is}
use Rattle.druid_serve_config.proofs.builder.broker_of.Goals as goal

pub new-requires : goal.new-requires
unfolding broker_at
new-requires c = broker_is c.args.network (view c.args.value.now) _ (search rules)
