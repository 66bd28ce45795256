use Rattle.serde_json.specs.View.{view}
use Rattle.druid_serve_config.proofs.PartLemmas.{network_settled}
use Rattle.druid_serve_config.proofs.field_rules.bad_field_of.Goals as goal

pub returns-clause-wrong : goal.returns-clause-wrong
returns-clause-wrong c =
    c.wrong_servers.ensures.wrong (network_settled (view c.args.value.now) c.settings_of.result c.settings_of.ensures)
