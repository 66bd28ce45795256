use Rattle.std.proofs.Common.{refl}
use Rattle.druid_inventory.specs.Join.{later_each}
use Rattle.druid_inventory.proofs.JoinLemmas.{agreeing, refused_at, joined_so}
use Rattle.druid_inventory.proofs.inventory.Inventory.judged_join.Goals as goal

pub returns-in-Some-clause-reported : goal.returns-in-Some-clause-reported
returns-in-Some-clause-reported c =
    refused_at _ _ c.args.self.now c.args.other.now c.in-Some.node c.entries-entries.ensures.value c.entries-others.ensures.value
    (c.are_of_same_nodes.ensures.0 c.if-not-are_of_same_nodes.false) c.in-Some.ensures

pub join_entries-requires-clause-agree : goal.join_entries-requires-clause-agree
join_entries-requires-clause-agree c =
    agreeing _ _ c.args.self.now c.args.other.now c.entries-entries.ensures.value c.entries-others.ensures.value c.in_default.ensures

pub returns-in-Ok-clause-ok : goal.returns-in-Ok-clause-ok
returns-in-Ok-clause-ok c =
    joined_so _ _ c.args.self.now c.args.other.now c.in-Ok.inventory c.entries-entries.ensures.value c.entries-others.ensures.value
    (c.are_of_same_nodes.ensures.0 c.if-not-are_of_same_nodes.false) c.in_default.ensures c.in-Ok.ensures

pub returns-in-Err-clause-reported : goal.returns-in-Err-clause-reported
returns-in-Err-clause-reported c = (
  later_each c.args.self.now c.args.other.now,
  joined_so _ _ c.args.self.now c.args.other.now (later_each c.args.self.now c.args.other.now) c.entries-entries.ensures.value c.entries-others.ensures.value
      (c.are_of_same_nodes.ensures.0 c.if-not-are_of_same_nodes.false) c.in_default.ensures refl,
)
