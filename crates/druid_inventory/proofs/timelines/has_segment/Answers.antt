use Rattle.std.proofs.Common.{◌∙◌, sym}
use Rattle.druid_segment_descriptor.proofs.DescribedLemmas.{same_described-decides}
use Rattle.druid_inventory.proofs.ChangeLemmas.{stands_there, belongs_nowhere}
use Rattle.druid_inventory.proofs.timelines.has_segment.Goals as goal

pub returns-in-Ok : goal.returns-in-Ok
returns-in-Ok c =
    stands_there c.args.set.now c.args.descriptor.now c.index-set-place.result c.id.result.now c.in-Ok.place c.eq.result c.requires c.id.ensures.value
    c.in-Ok.ensures.found c.index-set-place.is (
      λ t. (same_described-decides c.index-set-place.result c.args.descriptor.now).0 (sym c.eq.ensures ∙ t),
      λ e. c.eq.ensures ∙ (same_described-decides c.index-set-place.result c.args.descriptor.now).1 e,
    )

pub returns-in-Err : goal.returns-in-Err
returns-in-Err c = belongs_nowhere c.args.set.now c.args.descriptor.now c.id.result.now c.in-Err.field-0 c.id.ensures.value c.in-Err.ensures.absent
