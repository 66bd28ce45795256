use Rattle.druid_segment_descriptor.specs.declared.change.Change.TheVariants.{Drop}
use Rattle.druid_node.specs.Held.{state_of}
use Rattle.druid_node.proofs.StateLemmas.{IsReady, uncovered-state, uncovered-leaves}
use Rattle.druid_node.proofs.state.uncover.Goals as goal

pub returns-clause-left : goal.returns-clause-left
returns-clause-left c =
    let now = state_of c.args.history.now c.args.held.now in
    let ready : IsReady now (Drop c.args.descriptor) = record { valid = c.requires.state; set = c.len-held.ensures.valid; kept = c.mark-mark.ensures.kept; taken = c.requires.taken } in
    uncovered-leaves now c.args.id.now c.args.descriptor c.record_drop.new.history ready c.requires.found c.requires.bare c.record_drop.ensures

pub returns-clause-state : goal.returns-clause-state
returns-clause-state c =
    let now = state_of c.args.history.now c.args.held.now in
    let ready : IsReady now (Drop c.args.descriptor) = record { valid = c.requires.state; set = c.len-held.ensures.valid; kept = c.mark-mark.ensures.kept; taken = c.requires.taken } in
    uncovered-state now c.args.descriptor c.record_drop.new.history ready c.requires.bare c.record_drop.ensures
