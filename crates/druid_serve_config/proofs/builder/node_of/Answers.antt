use Rattle.std.proofs.Common.{rules}
use Rattle.serde_json.specs.View.{view}
use Rattle.druid_serve_config.specs.Configs.{node_at}
use Rattle.druid_serve_config.proofs.LimitLemmas.{node_is}
use Rattle.druid_serve_config.proofs.builder.node_of.Goals as goal

pub new-requires : goal.new-requires
unfolding node_at
new-requires c = node_is c.args.network (view c.args.value.now) _ (search rules)
