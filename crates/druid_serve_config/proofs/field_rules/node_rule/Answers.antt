use Rattle.std.proofs.Common.{rules, sym}
use Rattle.serde_json.specs.View.{view}
use Rattle.druid_serve_config.proofs.PartLemmas.{node_whole, threads_lack}
use Rattle.druid_serve_config.proofs.field_rules.node_rule.Goals as goal

pub returns-clause-test : goal.returns-clause-test
returns-clause-test c =
    sym (node_whole c.args.network (view c.args.value.now)
    (search rules) (search rules) (search rules) (search rules) (search rules)
    (search rules) (search rules) (search rules) (search rules) (search rules) (search rules))

pub returns-then-is_none-9-clause-test : goal.returns-then-is_none-9-clause-test
returns-then-is_none-9-clause-test c = threads_lack c.args.network (view c.args.value.now) (search rules)
