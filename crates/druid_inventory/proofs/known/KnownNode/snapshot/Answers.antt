use Rattle.std.proofs.Common.{◌≡◌, sym, subst, ◌∙◌}
use Rattle.druid_segment_descriptor.specs.Replay.{IsSegmentSet}
use Rattle.druid_segment_descriptor.specs.declared.reply.Body.TheVariants.{Snapshot}
use Rattle.druid_inventory.proofs.known.KnownNode.snapshot.Goals as goal

pub snapshot_of-requires-clause-set : goal.snapshot_of-requires-clause-set
snapshot_of-requires-clause-set c =
    let is : c.in_ok-set.set.items ≡ c.self.inside.set.items = c.in_ok-set.ensures ∙ c.deref.ensures.value in
    subst IsSegmentSet (sym is) c.self.invariant.set

pub returns : goal.returns
returns c =
    let is : c.in_ok-set.set.items ≡ c.self.inside.set.items = c.in_ok-set.ensures ∙ c.deref.ensures.value in
    c.snapshot_of.ensures ∙ (λ i. Snapshot (c.self.view_is i).mark (is i)) ∙ (λ i. Snapshot c.args.self.now.mark (c.self.view_is i).set)
