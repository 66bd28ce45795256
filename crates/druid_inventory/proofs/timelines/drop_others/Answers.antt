use Rattle.std.proofs.Common.{sym, ◌∙◌, arith}
use Rattle.std.proofs.lemmas.Bool.{false≢true}
use Rattle.druid_inventory.proofs.ChangeLemmas.{LeftTo-none, LeftTo-all, LeftTo-kept, LeftTo-dropped, LeftTo-takes}
use Rattle.druid_inventory.proofs.timelines.drop_others.Goals.{then-not-has_segment+in_ok-remove_segment, else-not-has_segment}
use Rattle.druid_inventory.proofs.timelines.drop_others.Goals as goal

pub loop-descriptor-init : goal.loop-descriptor-init
loop-descriptor-init c entries over = LeftTo-none entries c.args.node c.args.old.now c.args.new.now c.args.timelines.now over

pub remove_segment-requires : goal.remove_segment-requires
remove_segment-requires c =
    LeftTo-takes c.requires.over.0 c.args.node c.args.old.now c.args.new.now c.loop-descriptor.descriptor-index c.descriptor-item.result c.loop-descriptor.timelines
    c.requires.old c.loop-descriptor-test.true c.descriptor-item.is (c.loop-descriptor.invariant c.requires.over.0 c.requires.over.1)

pub loop-descriptor-preserved : goal.loop-descriptor-preserved
loop-descriptor-preserved c entries start =
    let old = c.args.old.now in
    let new = c.args.new.now in
    let k = c.loop-descriptor.descriptor-index in
    let d = c.descriptor-item.result in
    let over = c.loop-descriptor.invariant entries start in
    elim c.if-not-has_segment.branch [
      | then-not-has_segment+in_ok-remove_segment w ↦ rw w.timelines-is
          (LeftTo-dropped entries c.args.node old new k d c.loop-descriptor.timelines w.remove_segment.new.timelines c.requires.old c.loop-descriptor-test.true
          c.descriptor-item.is (λ there. false≢true (sym w.if-not-has_segment.true ∙ c.has_segment.ensures.1 there)) over w.in_ok-remove_segment.ensures)
      | else-not-has_segment w ↦ rw w.timelines-is
          (LeftTo-kept entries c.args.node old new k d c.loop-descriptor.timelines c.loop-descriptor-test.true c.descriptor-item.is
          (c.has_segment.ensures.0 w.if-not-has_segment.false) over)
    ]

pub returns : goal.returns
returns c entries start =
    LeftTo-all entries c.args.node c.args.old.now c.args.new.now c.loop-descriptor.descriptor-index c.loop-descriptor.timelines (omega arith)
    (c.loop-descriptor.invariant entries start)
