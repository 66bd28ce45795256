use Rattle.std.proofs.Common.{rules}
use Rattle.serde_json.specs.View.{view}
use Rattle.druid_serve_config.specs.Configs.{servers_at}
use Rattle.druid_serve_config.proofs.LimitLemmas.{within}
use Rattle.druid_serve_config.proofs.builder.build_config.Goals as goal

pub new-requires : goal.new-requires
unfolding servers_at
new-requires c = within (view c.args.value.now) _ (search rules)
