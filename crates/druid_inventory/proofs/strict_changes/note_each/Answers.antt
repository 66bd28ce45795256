use Rattle.std.proofs.Common.{◌≡◌, take, arith, ap, subst, ◌∙◌}
use Rattle.druid_segment_id.specs.Identifier.{Identifier}
use Rattle.druid_segment_descriptor.specs.Described.{Described}
use Rattle.druid_inventory.specs.Judged.{segment_of, IsFound}
use Rattle.druid_inventory.proofs.LastLemmas.{LastTo-more}
use Rattle.druid_inventory.proofs.strict_changes.note_each.Goals as goal

pub loop-i-preserved : goal.loop-i-preserved
loop-i-preserved c =
    let named : c.id.result.now ≡ (segment_of c.index-changes-i.result).id = c.id.ensures.value ∙ ap (λ (x : Described). x.id) c.segment_of.ensures in
    let noted = c.loop-i.invariant.noted in
    let found = subst (λ (id : Identifier). IsFound noted.segments id c.find_last-found.result) named (c.find_last-found.ensures noted.segments noted.last) in
    record {
      noted = LastTo-more c.args.changes.now c.loop-i.i c.index-changes-i.result (take c.loop-i.count c.loop-i.last) (take c.note_last-count.result c.note_last-count.new.last)
          c.find_last-found.result noted c.loop-i-test.true c.index-changes-i.is found c.note_last-count.ensures.noted;
      few = omega (arith, c.note_last-count.ensures.few, c.loop-i.invariant.few);
      room = c.note_last-count.ensures.len ∙ c.loop-i.invariant.room;
    }
