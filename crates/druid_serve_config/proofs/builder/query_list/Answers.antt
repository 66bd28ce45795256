use Rattle.std.proofs.Common.{rules}
use Rattle.serde_json.specs.Read.{max_depth}
use Rattle.druid_serve_config.proofs.DepthLemmas.{item_shallow}
use Rattle.druid_serve_config.proofs.builder.query_list.Goals as goal

pub query_of-requires-clause-shallow : goal.query_of-requires-clause-shallow
query_of-requires-clause-shallow c =
    item_shallow c.args.values.now c.loop-value.value-index c.value-item.result max_depth (search rules) c.value-item.is c.requires.shallow
