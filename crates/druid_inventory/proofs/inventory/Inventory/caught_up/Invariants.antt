use Rattle.std.proofs.Common.{◌≡◌, ◌≤◌, length, map}
use Rattle.std.specs.Arc.{arc_value}
use Rattle.std.specs.Prelude.{vec_len}
use Rattle.druid_inventory.specs.Entry.{max_nodes}
use Rattle.druid_inventory.specs.Timelines.{AreTimelinesOf}
use Rattle.druid_inventory.proofs.JoinLemmas.{later_first}
use Rattle.druid_inventory.proofs.inventory.Inventory.caught_up.Given as goal

abbrev pub invariant-loop-node : goal.invariant-loop-node
invariant-loop-node l = record {
  entries : map arc_value l.entries.items ≡ later_first l.node l.self (map arc_value l.others);
  few : vec_len l.entries ≤ max_nodes;
  long : vec_len l.entries ≡ length l.self;
  over : AreTimelinesOf (map arc_value l.entries.items) l.timelines;
}
