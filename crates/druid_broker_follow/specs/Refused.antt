-- What a reply that is not applied tells. Only proofs use this word.
use Rattle.std.specs.Prelude.{ℕ, List}
use Rattle.druid_segment_descriptor.specs.declared.reply.Body.{Body}
use Rattle.druid_inventory.specs.Entry.{Entry}
use Rattle.druid_inventory.specs.Step.{StepsAt, RefusedAt}
use Rattle.druid_inventory.specs.declared.fault.Outcome.{Outcome}
use Rattle.druid_broker_follow.specs.declared.fault.TurnFault.{TurnFault}
use Rattle.druid_broker_follow.specs.declared.fault.TurnFault.TheVariants.{Apply, Memory}

-- the reply is not applied; memory is wanted only where it would be
abbrev pub RefusesTurn : List Entry → ℕ → Body → TurnFault → Type 0
RefusesTurn inventory node reply (Apply fault) = RefusedAt inventory node reply fault
RefusesTurn inventory node reply Memory = (outcome : Outcome) × (entry : Entry) × StepsAt inventory node reply outcome entry
RefusesTurn inventory node reply fault = ⊥
