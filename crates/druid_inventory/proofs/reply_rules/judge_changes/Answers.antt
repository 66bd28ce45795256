use Rattle.std.proofs.Common.{◌≡◌, ◌+◌, take, arith, ap, sym, subst, ◌∙◌}
use Rattle.druid_segment_id.specs.Identifier.{Identifier}
use Rattle.druid_segment_descriptor.specs.Described.{Described}
use Rattle.druid_inventory.specs.Judged.{segment_of, IsFound}
use Rattle.druid_inventory.proofs.LastLemmas.{LastTo-more}
use Rattle.druid_inventory.proofs.ReplayedLemmas.{JudgedTo, judged_load, judged_drop}
use Rattle.druid_inventory.proofs.reply_rules.judge_changes.Goals as goal
use Rattle.druid_inventory.proofs.reply_rules.judge_changes.Goals.{in-Load+else-count-ge-MAX_SEGMENTS, in-Drop}

pub overflow_sub-count : goal.overflow_sub-count
overflow_sub-count c =
    let j = c.loop-i.invariant.judged in
    (judged_drop c.args.set.now c.args.changes.now c.loop-i.i c.loop-i.count c.index-changes-i.result c.in-Drop.field-0 j
    c.loop-i-test.true c.index-changes-i.is c.in-Drop.is (sym (c.is_strict_after.ensures j.after j.made) ∙ c.if-not-is_strict_after.false)).0

pub loop-i-preserved : goal.loop-i-preserved
loop-i-preserved c =
    let j = c.loop-i.invariant.judged in
    let strict = sym (c.is_strict_after.ensures j.after j.made) ∙ c.if-not-is_strict_after.false in
    let judged : JudgedTo c.args.set.now c.args.changes.now (c.loop-i.i + 1) c.match-change.count = elim c.match-change.branch [
      | in-Load+else-count-ge-MAX_SEGMENTS w ↦
          subst (JudgedTo c.args.set.now c.args.changes.now (c.loop-i.i + 1)) (sym w.count-is)
          (judged_load c.args.set.now c.args.changes.now c.loop-i.i c.loop-i.count c.index-changes-i.result w.in-Load.field-0 j
          c.loop-i-test.true c.index-changes-i.is w.in-Load.is strict (omega (arith, w.if-count-ge-MAX_SEGMENTS.false)))
      | in-Drop w ↦
          subst (JudgedTo c.args.set.now c.args.changes.now (c.loop-i.i + 1)) (sym w.count-is)
          (judged_drop c.args.set.now c.args.changes.now c.loop-i.i c.loop-i.count c.index-changes-i.result w.in-Drop.field-0 j
          c.loop-i-test.true c.index-changes-i.is w.in-Drop.is strict).1
    ] in
    let named : c.id.result.now ≡ (segment_of c.index-changes-i.result).id = c.id.ensures.value ∙ ap (λ (x : Described). x.id) c.segment_of.ensures in
    let noted = c.loop-i.invariant.noted in
    let found = subst (λ (id : Identifier). IsFound noted.segments id c.find_last-found.result) named (c.find_last-found.ensures noted.segments noted.last) in
    record {
      judged = judged;
      noted = LastTo-more c.args.changes.now c.loop-i.i c.index-changes-i.result (take c.loop-i.changed c.loop-i.last) (take c.note_last-changed.result c.note_last-changed.new.last)
          c.find_last-found.result noted c.loop-i-test.true c.index-changes-i.is found c.note_last-changed.ensures.noted;
      few = omega (arith, c.note_last-changed.ensures.few, c.loop-i.invariant.few);
      room = c.note_last-changed.ensures.len ∙ c.loop-i.invariant.room;
    }
