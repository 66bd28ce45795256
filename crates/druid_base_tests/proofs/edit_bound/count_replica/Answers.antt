use Rattle.std.proofs.Common.{◌↔◌, ap, sym, subst}
use Rattle.druid_segment_id.specs.Group.{group_of}
use Rattle.druid_segment_id.specs.Identifier.{Identifier}
use Rattle.druid_timeline.specs.Holding.{Serving, IsCompleteIn}
use Rattle.druid_base_tests.proofs.OthersLemmas.{of_ok}
use Rattle.druid_base_tests.proofs.ReplicaLemmas.{level_second, level_back}
use Rattle.druid_base_tests.proofs.edit_bound.count_replica.Goals as goal

pub returns-clause-comes : goal.returns-clause-comes
returns-clause-comes w c =
    let none = ap (λ (s : Serving). s.held) c.new-timeline.ensures in
    let first = of_ok c.add.result c.expect.result c.expect.ensures c.add.ensures.added in
    let second = of_ok c.add-2.result c.expect-2.result c.expect-2.ensures c.add-2.ensures.added in
    of_ok c.add-2.result c.expect-2.result c.expect-2.ensures c.add-2.ensures.level
    (level_second c.new-timeline.result.held c.add.new.self.held c.add-2.new.self.held c.segment-v1.result none first second)

pub returns-clause-goes : goal.returns-clause-goes
returns-clause-goes w c =
    let none = ap (λ (s : Serving). s.held) c.new-timeline.ensures in
    let first = of_ok c.add.result c.expect.result c.expect.ensures c.add.ensures.added in
    let second = of_ok c.add-2.result c.expect-2.result c.expect-2.ensures c.add-2.ensures.added in
    let removed = of_ok c.remove.result c.expect-3.result c.expect-3.ensures c.remove.ensures.removed in
    let one = of_ok c.remove.result c.expect-3.result c.expect-3.ensures c.remove.ensures.one in
    of_ok c.remove.result c.expect-3.result c.expect-3.ensures c.remove.ensures.level
    (subst (λ (id : Identifier). IsCompleteIn c.add-2.new.self.held (group_of id) ↔ IsCompleteIn c.remove.new.self.held (group_of id)) (sym c.id.ensures.value)
    (level_back c.new-timeline.result.held c.add.new.self.held c.add-2.new.self.held c.remove.new.self.held c.segment-v1.result c.id.result.now none c.id.ensures.value first second removed one))
