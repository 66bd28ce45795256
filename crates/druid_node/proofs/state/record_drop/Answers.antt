use Rattle.druid_segment_descriptor.specs.declared.change.Change.TheVariants.{Drop}
use Rattle.druid_node.proofs.StateLemmas.{drop_recorded}
use Rattle.druid_node.proofs.state.record_drop.Goals as goal

pub unreachable-requires : goal.unreachable-requires
unreachable-requires c =
    let reported = c.in_default.ensures in
    drop_recorded c.args.history.now (Drop c.args.descriptor) c.in_default.field-0 c.requires reported.served.0 reported.not_served.0 reported.full.0 reported.at_end.0 (reported.drops tt)

pub returns : goal.returns
returns c = record { incarnation = c.in-Ok.ensures.place.0; limit = c.in-Ok.ensures.place.1; taken = c.requires; stands = c.in-Ok.ensures.stands }
