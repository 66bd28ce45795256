use Rattle.std.proofs.Common.{ap}
use Rattle.std.specs.Option.{is_some}
use Rattle.druid_segment_descriptor.specs.declared.change.Change.TheVariants.{Drop}
use Rattle.druid_node.specs.Held.{state_of}
use Rattle.druid_node.proofs.StateLemmas.{IsReady, held_found, dropped-state, dropped-leaves}
use Rattle.druid_node.proofs.state.take_out.Goals as goal

pub remove-requires : goal.remove-requires
remove-requires c =
    let now = state_of c.args.history.now c.args.held.now in
    let found = held_found now c.args.id.now c.args.descriptor c.requires.state c.requires.ordinary c.requires.found in
    ap is_some found.1

pub returns-clause-left : goal.returns-clause-left
returns-clause-left c =
    let now = state_of c.args.history.now c.args.held.now in
    dropped-leaves now c.args.id.now c.args.descriptor c.record_drop.new.history c.remove.new.self c.requires.found c.remove.ensures.removed c.remove.ensures.gone c.record_drop.ensures

pub returns-clause-state : goal.returns-clause-state
returns-clause-state c =
    let now = state_of c.args.history.now c.args.held.now in
    let ready : IsReady now (Drop c.args.descriptor) = record { valid = c.requires.state; set = c.len-held.ensures.valid; kept = c.mark-mark.ensures.kept; taken = c.requires.taken } in
    dropped-state now c.args.id.now c.args.descriptor c.record_drop.new.history c.remove.new.self ready c.requires.found c.requires.ordinary c.remove.ensures.removed c.record_drop.ensures
