use Rattle.std.proofs.Common.{◌≡◌, drop, is_some}
use Rattle.std.specs.List.{list_all}
use Rattle.serde_json.specs.View.{view}
use Rattle.druid_serve_config.specs.Configs.{node_at}
use Rattle.druid_serve_config.proofs.field_rules.bad_node.Given as goal

abbrev pub invariant-loop-place : goal.invariant-loop-place
invariant-loop-place l = list_all (λ value. is_some (node_at l.network (view value))) (drop l.place l.values) ≡ list_all (λ value. is_some (node_at l.network (view value))) l.values
