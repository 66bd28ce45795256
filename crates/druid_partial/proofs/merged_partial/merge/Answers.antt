use Rattle.std.proofs.Common.{◌≡◌, ◌∙◌, sym}
use Rattle.druid_partial.specs.Groups.{IsMerge}
use Rattle.druid_partial.specs.Joined.{merged}
use Rattle.druid_partial.proofs.JoinLemmas.{walked, merged_partial, merged_merge, merged_for}
use Rattle.druid_partial.proofs.merged_partial.merge.Goals as goal

pub new-requires : goal.new-requires
new-requires c =
    let kinds = c.into_parts-kinds.result.0.items in
    let e : c.loop-group.groups.items ≡ merged kinds c.args.left.groups c.args.right.groups =
    walked kinds c.deref.result.now c.loop-group.groups.items c.loop-group.mine.items c.loop-group.theirs.items c.reverse.new.self.items
    c.reverse-2.new.self.items c.into_parts-kinds.result.1.items c.into_parts-theirs.result.1.items c.args.left.groups c.args.right.groups
    c.loop-group.invariant.whole c.in_default-take_next.ensures c.deref.ensures.value c.reverse.ensures.items
    c.into_parts-kinds.ensures.groups c.reverse-2.ensures.items c.into_parts-theirs.ensures.groups in
    let k = sym c.into_parts-kinds.ensures.kinds in
    rw e (merged_partial kinds c.args.left c.args.right k (sym c.requires ∙ k) c.into_parts-kinds.ensures.valid c.into_parts-theirs.ensures.valid)

pub returns-clause-groups : goal.returns-clause-groups
returns-clause-groups c =
    let kinds = c.into_parts-kinds.result.0.items in
    let e : c.loop-group.groups.items ≡ merged kinds c.args.left.groups c.args.right.groups =
    walked kinds c.deref.result.now c.loop-group.groups.items c.loop-group.mine.items c.loop-group.theirs.items c.reverse.new.self.items
    c.reverse-2.new.self.items c.into_parts-kinds.result.1.items c.into_parts-theirs.result.1.items c.args.left.groups c.args.right.groups
    c.loop-group.invariant.whole c.in_default-take_next.ensures c.deref.ensures.value c.reverse.ensures.items
    c.into_parts-kinds.ensures.groups c.reverse-2.ensures.items c.into_parts-theirs.ensures.groups in
    let k = sym c.into_parts-kinds.ensures.kinds in
    let m : IsMerge kinds c.args.left.groups c.args.right.groups (merged kinds c.args.left.groups c.args.right.groups) =
    merged_merge kinds c.args.left c.args.right k (sym c.requires ∙ k) c.into_parts-kinds.ensures.valid c.into_parts-theirs.ensures.valid in
    rw c.new.ensures (rw (e, k) m)

pub returns-clause-of_query : goal.returns-clause-of_query
returns-clause-of_query c = λ query p q.
    let kinds = c.into_parts-kinds.result.0.items in
    let e : c.loop-group.groups.items ≡ merged kinds c.args.left.groups c.args.right.groups =
    walked kinds c.deref.result.now c.loop-group.groups.items c.loop-group.mine.items c.loop-group.theirs.items c.reverse.new.self.items
    c.reverse-2.new.self.items c.into_parts-kinds.result.1.items c.into_parts-theirs.result.1.items c.args.left.groups c.args.right.groups
    c.loop-group.invariant.whole c.in_default-take_next.ensures c.deref.ensures.value c.reverse.ensures.items
    c.into_parts-kinds.ensures.groups c.reverse-2.ensures.items c.into_parts-theirs.ensures.groups in
    rw c.new.ensures (rw e (merged_for query kinds c.args.left c.args.right (sym c.into_parts-kinds.ensures.kinds) p q))
