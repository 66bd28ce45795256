-- What is planned for an entry, before it is carried out: only proofs use this.
use Rattle.std.specs.Prelude.{◌≡◌, ℕ, ◌≤◌, List, length, Some, slice_get, slice_set, ⊤}
use Rattle.druid_segment_descriptor.specs.Described.{Described}
use Rattle.druid_segment_descriptor.specs.Replay.{replay_from}
use Rattle.druid_segment_descriptor.specs.Reply.{IsSnapshot, max_changes}
use Rattle.druid_segment_descriptor.specs.declared.reply.Body.{Body}
use Rattle.druid_inventory.specs.Entry.{Entry}
use Rattle.druid_inventory.specs.Moves.{Moves}
use Rattle.druid_inventory.specs.Step.{Steps, moved_to}
use Rattle.druid_inventory.specs.declared.fault.Outcome.{Outcome}
use Rattle.druid_inventory.specs.declared.fault.Outcome.TheVariants.{Moved}
use Rattle.druid_inventory.specs.declared.plan.Plan.{Plan}
use Rattle.druid_inventory.specs.declared.plan.Plan.TheVariants.{Replay, Replace, Stay}

-- the outcome
abbrev pub outcome_of : Plan → Outcome
outcome_of (Replay to changes) = Moved
outcome_of (Replace at set) = Moved
outcome_of (Stay outcome) = outcome

-- the plan can be carried out
abbrev pub Fits : Plan → Entry → Type 0
Fits (Replay to changes) e = (1 ≤ to.incarnation) × (length changes.now ≤ max_changes) × (t : List Described) × (replay_from e.set changes.now ≡ Some t)
Fits (Replace at set) e = IsSnapshot at set.now
Fits (Stay outcome) e = ⊤

-- it leads from the entry to the other
abbrev pub Leads : Plan → Entry → Entry → Type 0
Leads (Replay to changes) old new = Moves old new to changes.now
Leads (Replace at set) old new = new ≡ moved_to old at set.now
Leads (Stay outcome) old new = new ≡ old

-- it is what the reply makes of the entry
pub record IsPlanOf (e : Entry) (body : Body) (plan : Plan) : Type 0 where
  pub fits : Fits plan e
  pub steps : (new : Entry) → Leads plan e new → Steps e body (outcome_of plan) new

-- for the entry of the node, it can be carried out
abbrev pub FitsAt : Plan → List Entry → ℕ → Type 0
FitsAt plan inventory node = (e : Entry) × (slice_get inventory node ≡ Some e) × Fits plan e

-- the entry of the node is led by it, and the others stay
abbrev pub LeadsAt : Plan → List Entry → List Entry → ℕ → Type 0
LeadsAt plan old new node = (e : Entry) × (f : Entry) × (slice_get old node ≡ Some e) × Leads plan e f × (new ≡ slice_set old node f)

-- it is what the reply makes of the entry of the node
abbrev pub IsPlanAt : List Entry → ℕ → Body → Plan → Type 0
IsPlanAt inventory node body plan = (e : Entry) × (slice_get inventory node ≡ Some e) × IsPlanOf e body plan
