use Rattle.std.proofs.Common.{◌≡◌, List, Some, take, subst, ◌∙◌}
use Rattle.std.specs.Prelude.{◌↔◌, Contains}
use Rattle.druid_segment_descriptor.specs.Described.{Described}
use Rattle.druid_segment_descriptor.specs.Replay.{replay_from}
use Rattle.druid_inventory.specs.Merged.{NoneIs}
use Rattle.druid_inventory.proofs.MergeLemmas.{left_apart, merged}
use Rattle.druid_inventory.proofs.changes.advance_set.Goals as goal

pub put_in-requires-clause-new : goal.put_in-requires-clause-new
put_in-requires-clause-new c =
    let l = c.note_each-count.ensures.noted in
    let left = c.take_out.new.set.items in
    left_apart c.args.set.now.items left c.in_ok-loads.loads.items c.args.changes.now (take c.note_each-count.result c.note_each-count.new.last) l.0 l.1
    (λ x. subst (λ (ds : List Described). Contains left x ↔ (Contains ds x × NoneIs l.0 x.id)) c.reserve.ensures.items (c.take_out.ensures.left l.0 l.1 x))
    c.in_ok-loads.ensures.all

pub returns-clause-made : goal.returns-clause-made
returns-clause-made c =
    let l = c.note_each-count.ensures.noted in
    let left = c.take_out.new.set.items in
    c.requires.made.1
    ∙ merged c.args.set.now.items c.requires.made.0 left c.put_in.new.set.items c.in_ok-loads.loads.items c.args.changes.now (take c.note_each-count.result c.note_each-count.new.last) l.0
    c.requires.set c.requires.made.1 l.1
    (λ x. subst (λ (ds : List Described). Contains left x ↔ (Contains ds x × NoneIs l.0 x.id)) c.reserve.ensures.items (c.take_out.ensures.left l.0 l.1 x))
    c.in_ok-loads.ensures.all c.put_in.ensures.sorted c.put_in.ensures.all

pub returns-clause-over : goal.returns-clause-over
returns-clause-over c entries over =
    let l = c.note_each-count.ensures.noted in
    let left = c.take_out.new.set.items in
    let made : replay_from c.args.set.now.items c.args.changes.now ≡ Some c.put_in.new.set.items =
    c.requires.made.1
    ∙ merged c.args.set.now.items c.requires.made.0 left c.put_in.new.set.items c.in_ok-loads.loads.items c.args.changes.now (take c.note_each-count.result c.note_each-count.new.last) l.0
    c.requires.set c.requires.made.1 l.1
    (λ x. subst (λ (ds : List Described). Contains left x ↔ (Contains ds x × NoneIs l.0 x.id)) c.reserve.ensures.items (c.take_out.ensures.left l.0 l.1 x))
    c.in_ok-loads.ensures.all c.put_in.ensures.sorted c.put_in.ensures.all in
    c.in_ok-replay_timelines.ensures.ok entries c.args.set.now.items c.put_in.new.set.items c.requires.set made over
