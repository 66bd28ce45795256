-- Plans for an entry.
use Rattle.std.proofs.Common.{◌≡◌, ◌≤◌, ℕ, List, Some, length, Bor, set, refl, sym, ◌∙◌, subst, inl, inr}
use Rattle.std.specs.List.{slice_get}
use Rattle.std.specs.declared.cmp.Ordering.TheVariants.{Less, Equal, Greater}
use Rattle.std.proofs.lemmas.Option.{same_Some}
use Rattle.druid_segment_descriptor.specs.Described.{Described}
use Rattle.druid_segment_descriptor.specs.Mark.{Point, mark_cmp}
use Rattle.druid_segment_descriptor.specs.Replay.{replay_from}
use Rattle.druid_segment_descriptor.specs.Reply.{IsSnapshot, max_changes}
use Rattle.druid_segment_descriptor.specs.declared.change.Change.{Change}
use Rattle.druid_segment_descriptor.specs.declared.change.Cause.{Cause}
use Rattle.druid_segment_descriptor.specs.declared.reply.Body.{Body}
use Rattle.druid_segment_descriptor.specs.declared.reply.Body.TheVariants.{Delta, Snapshot, Page, Reset}
use Rattle.druid_inventory.specs.Entry.{Entry}
use Rattle.druid_inventory.specs.Plan.{outcome_of, Fits, Leads, LeadsAt, IsPlanOf, IsPlanAt}
use Rattle.druid_inventory.specs.Step.{Steps, StepsAt, Refuses, Reports, GoesOn, moved_to, tail_of}
use Rattle.druid_inventory.specs.declared.fault.ApplyFault.{ApplyFault}
use Rattle.druid_inventory.specs.declared.fault.ApplyFault.TheVariants as faults
use Rattle.druid_inventory.specs.declared.fault.Outcome.{Outcome}
use Rattle.druid_inventory.specs.declared.fault.Outcome.TheVariants.{AlreadyHave, AskWhole, AskPages}
use Rattle.druid_inventory.specs.declared.plan.Plan.{Plan}
use Rattle.druid_inventory.specs.declared.plan.Plan.TheVariants.{Replay, Replace, Stay}

-- ---- what is planned

pub known_delta : (e : Entry) (from to : Point) (changes : List Change) → to.incarnation ≡ e.mark.incarnation → to.count ≤ e.mark.count
    → IsPlanOf e (Delta from to changes) (Stay AlreadyHave)
known_delta e from to changes same early = record { fits = tt; steps = λ new is. (same, early, is) }

pub replayed_delta : (e : Entry) (from to : Point) (changes : List Change) (left : Bor (List Change)) (t : List Described) → GoesOn e from to → 1 ≤ to.incarnation → length left.now ≤ max_changes
    → replay_from e.set left.now ≡ Some t → ((u : List Described) → replay_from e.set left.now ≡ Some u → replay_from e.set (tail_of e from changes) ≡ Some u)
    → IsPlanOf e (Delta from to changes) (Replay to left)
replayed_delta e from to changes left t on incarnation few made tail = record {
  fits = (incarnation, few, t, made);
  steps = λ new leads. (on, leads.0, tail leads.0 leads.1, leads.2);
}

pub later_snapshot : (e : Entry) (at : Point) (segments : Bor (List Described)) → IsSnapshot at segments.now → mark_cmp e.mark at ≡ Less
    → IsPlanOf e (Snapshot at segments.now) (Replace at segments)
later_snapshot e at segments valid less = record { fits = valid; steps = λ new is. (less, is) }

pub same_snapshot : (e : Entry) (at : Point) (segments : List Described) → mark_cmp e.mark at ≡ Equal → segments ≡ e.set
    → IsPlanOf e (Snapshot at segments) (Stay AlreadyHave)
same_snapshot e at segments level same = record { fits = tt; steps = λ new is. (inr (level, same), is) }

pub older_snapshot : (e : Entry) (at : Point) (segments : List Described) → mark_cmp e.mark at ≡ Greater
    → IsPlanOf e (Snapshot at segments) (Stay AlreadyHave)
older_snapshot e at segments above = record { fits = tt; steps = λ new is. (inl above, is) }

pub paged : (e : Entry) (at : Point) (page of : ℕ) (segments : List Described) → IsPlanOf e (Page at page of segments) (Stay AskPages)
paged e at page of segments = record { fits = tt; steps = λ new is. is }

pub reset : (e : Entry) (cause : Cause) (at : Point) → IsPlanOf e (Reset cause at) (Stay AskWhole)
reset e cause at = record { fits = tt; steps = λ new is. is }

-- ---- the words of a plan

no_unknown : (e : Entry) (body : Body) → Refuses e body faults.UnknownNode → ⊥
no_unknown e (Delta from to changes) h = h
no_unknown e (Snapshot at segments) h = h
no_unknown e (Page at page of segments) h = h
no_unknown e (Reset cause at) h = h

no_memory : (e : Entry) (body : Body) → Refuses e body faults.Memory → ⊥
no_memory e (Delta from to changes) h = h
no_memory e (Snapshot at segments) h = h
no_memory e (Page at page of segments) h = h
no_memory e (Reset cause at) h = h

-- a refusal of the entry is reported
pub refusal_is_reported : (inventory : List Entry) (node : ℕ) (e : Entry) (body : Body) (f : ApplyFault) → slice_get inventory node ≡ Some e → Refuses e body f → Reports inventory node body f
refusal_is_reported inventory node e body faults.UnknownNode found h = absurd (no_unknown e body h)
refusal_is_reported inventory node e body faults.OtherIncarnation found h = (e, found, h)
refusal_is_reported inventory node e body faults.Gap found h = (e, found, h)
refusal_is_reported inventory node e body (faults.NotStrict index) found h = (e, found, h)
refusal_is_reported inventory node e body faults.TooMany found h = (e, found, h)
refusal_is_reported inventory node e body faults.Conflict found h = (e, found, h)
refusal_is_reported inventory node e body faults.PageConflict found h = (e, found, h)
refusal_is_reported inventory node e body faults.Memory found h = absurd (no_memory e body h)

leads_somewhere : (plan : Plan) (e : Entry) → Fits plan e → (new : Entry) × Leads plan e new
leads_somewhere (Replay to changes) e h = (moved_to e to h.2, (h.2, h.3, refl))
leads_somewhere (Replace at segments) e h = (moved_to e at segments.now, refl)
leads_somewhere (Stay outcome) e h = (e, refl)

-- where there is a plan, nothing is refused
pub memory_is_reported : (inventory : List Entry) (node : ℕ) (body : Body) (plan : Plan) → IsPlanAt inventory node body plan → Reports inventory node body faults.Memory
memory_is_reported inventory node body plan is =
    let to = leads_somewhere plan is.0 is.2.fits in
    (outcome_of plan, to.0, (is.0, is.1, is.2.steps to.0 to.1))

-- a plan that was carried out is a step
pub carried : (old new : List Entry) (node : ℕ) (body : Body) (plan : Plan) (o : Outcome) → IsPlanAt old node body plan → LeadsAt plan old new node → o ≡ outcome_of plan
    → (entry : Entry) × StepsAt old node body o entry × (new ≡ set old node entry)
carried old new node body plan o is leads so =
    let same : leads.0 ≡ is.0 = same_Some leads.0 is.0 (sym leads.2 ∙ is.1) in
    let step = is.2.steps leads.1 (subst (λ (x : Entry). Leads plan x leads.1) same leads.3) in
    (leads.1, (is.0, is.1, subst (λ (p : Outcome). Steps is.0 body p leads.1) (sym so) step), leads.4)
