use Rattle.std.proofs.Common.{◌≡◌, ◌-◌, List, get_or, take, subst, ◌∙◌, arith, rules}
use Rattle.druid_segment_id.specs.Identifier.{Identifier}
use Rattle.druid_segment_descriptor.specs.Described.{Described}
use Rattle.druid_segment_descriptor.specs.Replay.{StandsAt, BelongsAt}
use Rattle.druid_inventory.proofs.MergeLemmas.{put_none, put_sorted, put_slice, put_read, put_apart, put_more, put_end}
use Rattle.druid_inventory.proofs.merge.put_in.Goals as goal

pub loop-left-init : goal.loop-left-init
loop-left-init c =
    put_none c.args.set.now.items c.append.new.self.items c.args.loads.items c.len-end.result c.len-left.result c.requires.set (search rules) (search rules) c.in-Ok.ensures.items

pub find_segment-requires : goal.find_segment-requires
find_segment-requires c =
    put_sorted c.args.set.now.items c.loop-left.set.items c.deref.result.now c.args.loads.items c.loop-left.end c.loop-left.left c.deref.ensures.value c.requires.set.sorted c.loop-left.invariant

pub unreachable-requires-in_default : goal.unreachable-requires-in_default
unreachable-requires-in_default c =
    let s = c.args.set.now.items in
    let l = c.index.result.now in
    let h = c.loop-left.invariant in
    let within = h.within in
    let front = put_slice s c.loop-left.set.items c.deref.result.now c.args.loads.items c.loop-left.end c.loop-left.left c.deref.ensures.value h in
    let is : l ≡ get_or c.args.loads.items (c.loop-left.left - 1) l = c.index.ensures ∙ put_read s c.loop-left.set.items c.args.loads.items c.loop-left.end c.loop-left.left l h c.loop-left-test.true in
    let at = subst (λ (i : Identifier). StandsAt (take c.loop-left.end s) i c.in_default.field-0) c.id.ensures.value
    (subst (λ (ds : List Described). StandsAt ds c.id.result.now c.in_default.field-0) front c.in_default.ensures.found) in
    put_apart s c.args.loads.items c.loop-left.end c.in_default.field-0 (c.loop-left.left - 1) l c.requires.new (omega (arith, c.loop-left-test.true)) is at

pub loop-left-preserved : goal.loop-left-preserved
loop-left-preserved c =
    let s = c.args.set.now.items in
    let l = c.index.result.now in
    let h = c.loop-left.invariant in
    let front = put_slice s c.loop-left.set.items c.deref.result.now c.args.loads.items c.loop-left.end c.loop-left.left c.deref.ensures.value h in
    let is : l ≡ get_or c.args.loads.items (c.loop-left.left - 1) l = c.index.ensures ∙ put_read s c.loop-left.set.items c.args.loads.items c.loop-left.end c.loop-left.left l h c.loop-left-test.true in
    let at = subst (λ (i : Identifier). BelongsAt (take c.loop-left.end s) i c.in-Err-find_segment.place) c.id.ensures.value
    (subst (λ (ds : List Described). BelongsAt ds c.id.result.now c.in-Err-find_segment.place) front c.in-Err-find_segment.ensures.absent) in
    put_more s c.loop-left.set.items c.exchange_parts.new.set.items c.args.loads.items c.loop-left.end c.loop-left.left c.in-Err-find_segment.place l h c.requires.rising
    c.loop-left-test.true is at c.exchange_parts.ensures.exchanged

pub returns-clause-all : goal.returns-clause-all
returns-clause-all c x =
    put_end c.args.set.now.items c.loop-left.set.items c.args.loads.items c.loop-left.end c.loop-left.left x c.loop-left.invariant (omega (arith, c.loop-left-test.false))
