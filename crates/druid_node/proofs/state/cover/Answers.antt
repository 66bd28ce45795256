use Rattle.std.proofs.Common.{refl}
use Rattle.druid_segment_descriptor.specs.declared.change.Change.TheVariants.{Load}
use Rattle.druid_node.specs.Held.{state_of}
use Rattle.druid_node.proofs.StateLemmas.{IsReady, covered-state, state_stays}
use Rattle.druid_node.proofs.state.cover.Goals as goal

pub returns-in-Ok-clause-ok : goal.returns-in-Ok-clause-ok
returns-in-Ok-clause-ok c = record { incarnation = c.in-Ok.ensures.place.0; limit = c.in-Ok.ensures.place.1; taken = c.requires.taken; stands = c.in-Ok.ensures.stands }

pub returns-in-Ok-clause-state : goal.returns-in-Ok-clause-state
returns-in-Ok-clause-state c =
    let now = state_of c.args.history.now c.args.held.now in
    let ready : IsReady now (Load c.args.tombstone) = record { valid = c.requires.state; set = c.len-held.ensures.valid; kept = c.mark-mark.ensures.kept; taken = c.requires.taken } in
    covered-state now c.args.tombstone c.record.new.self ready c.requires.bare c.in-Ok.ensures.stands

pub returns-in-Err-clause-state : goal.returns-in-Err-clause-state
returns-in-Err-clause-state c =
    state_stays (state_of c.args.history.now c.args.held.now) c.record.new.self c.args.held.now c.requires.state c.in-Err.ensures.unchanged refl
