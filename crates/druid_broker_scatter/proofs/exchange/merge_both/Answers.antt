use Rattle.std.proofs.Common.{◌≡◌, ◌∙◌, sym, length}
use Rattle.druid_broker_scatter.proofs.RequestLemmas.{is_zero}
use Rattle.druid_broker_scatter.proofs.ReadLemmas.{empty_left, empty_right, nothing}
use Rattle.druid_broker_scatter.proofs.exchange.merge_both.Goals as goal

pub returns-then-is_empty-clause-groups : goal.returns-then-is_empty-clause-groups
returns-then-is_empty-clause-groups c =
    let none : length c.groups.result.now ≡ 0 = is_zero (length c.groups.result.now) c.is_empty.result c.is_empty.ensures c.if-is_empty.true in
    empty_left c.args.left c.args.right (sym c.groups.ensures.value ∙ nothing c.groups.result.now none) c.requires c.groups-then-is_empty.ensures.valid

pub returns-then-is_empty-2-clause-groups : goal.returns-then-is_empty-2-clause-groups
returns-then-is_empty-2-clause-groups c =
    let none : length c.groups-2.result.now ≡ 0 = is_zero (length c.groups-2.result.now) c.is_empty-2.result c.is_empty-2.ensures c.if-is_empty-2.true in
    empty_right c.args.left c.args.right (sym c.groups-2.ensures.value ∙ nothing c.groups-2.result.now none) c.groups.ensures.valid
