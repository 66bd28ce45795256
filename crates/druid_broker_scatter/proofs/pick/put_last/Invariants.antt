use Rattle.std.proofs.Common.{◌≡◌, ◌++◌, length, take, drop}
use Rattle.std.specs.List.{filter}
use Rattle.druid_broker_scatter.specs.Order.{ailing_last, has_no_node}
use Rattle.druid_broker_scatter.proofs.pick.put_last.Given as goal

-- the nodes before the place are in order, and those from there on as they were
abbrev pub invariant-loop-place : goal.invariant-loop-place
invariant-loop-place l = record {
  ordered : l.nodes ≡ ailing_last l.ailing (take l.place l.initial.nodes) ++ drop l.place l.initial.nodes;
  count : l.well ≡ length (filter (has_no_node l.ailing) (take l.place l.initial.nodes));
}
