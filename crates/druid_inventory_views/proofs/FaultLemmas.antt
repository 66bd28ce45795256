-- Why a publisher does not publish, exactly.
use Rattle.std.proofs.Common.{◌≡◌, ◌≢◌, ◌↔◌, ℕ, List, None, Result, Ok, Err, refl, sym, ap, ◌∙◌}
use Rattle.std.specs.List.{slice_get}
use Rattle.std.specs.Result.{IfOk, IfErr}
use Rattle.std.proofs.lemmas.Option.{none-some}
use Rattle.druid_segment_descriptor.specs.declared.reply.Body.{Body}
use Rattle.druid_inventory.specs.Entry.{Entry}
use Rattle.druid_inventory.specs.Step.{RefusedAt}
use Rattle.druid_inventory.specs.declared.fault.ApplyFault.{ApplyFault}
use Rattle.druid_inventory.specs.declared.fault.ApplyFault.TheVariants as apply
use Rattle.druid_inventory.proofs.StepLemmas as steps
use Rattle.druid_inventory.proofs.StepLemmas.{SomeStep}
use Rattle.druid_inventory_views.specs.Faults.{publish_fault, ReportsPublish}
use Rattle.druid_inventory_views.specs.declared.fault.PublishFault.{PublishFault}
use Rattle.druid_inventory_views.specs.declared.fault.PublishFault.TheVariants as faults

pub not_memory : (f : ApplyFault) → f ≢ apply.Memory → faults.Apply f ≡ publish_fault f
not_memory apply.UnknownNode h = refl
not_memory apply.OtherIncarnation h = refl
not_memory apply.Gap h = refl
not_memory (apply.NotStrict index) h = refl
not_memory apply.TooMany h = refl
not_memory apply.Conflict h = refl
not_memory apply.PageConflict h = refl
not_memory apply.Memory h = absurd (h refl)

-- the node is unknown exactly where the fault says so
pub unknown_exact : {X : Type 0} (r : Result X PublishFault) (inventory : List Entry) (node : ℕ) (body : Body)
    → IfOk r (λ _. SomeStep inventory node body) → IfErr r (ReportsPublish inventory node body)
    → (r ≡ Err (faults.Apply apply.UnknownNode)) ↔ (slice_get inventory node ≡ None)
unknown_exact (Ok x) inventory node body ok reports = (λ e. absurd (cc), λ none. absurd (none-some ok.2.0 (sym none ∙ ok.2.1)))
unknown_exact {X = X} (Err (faults.Apply f)) inventory node body ok reports =
    let below = steps.unknown_exact {X = X} (Err f) inventory node body _ reports.1 in (
      λ e. let same : f ≡ apply.UnknownNode = cc in below.0 (ap Err same),
      λ none. let same : f ≡ apply.UnknownNode = cc (below.1 none) in ap (λ (g : ApplyFault). Err (faults.Apply g)) same,
    )
unknown_exact (Err faults.NoReading) inventory node body ok reports = absurd reports
unknown_exact (Err faults.Memory) inventory node body ok reports = (λ e. absurd (cc), λ none. absurd (none-some reports.2.0 (sym none ∙ reports.2.1)))

-- and each refusal exactly where the fault says it
pub refused_exact : {X : Type 0} (r : Result X PublishFault) (inventory : List Entry) (node : ℕ) (body : Body)
    → IfOk r (λ _. SomeStep inventory node body) → IfErr r (ReportsPublish inventory node body)
    → (fault : ApplyFault) → fault ≢ apply.UnknownNode → fault ≢ apply.Memory → (r ≡ Err (faults.Apply fault)) ↔ RefusedAt inventory node body fault
refused_exact {X = X} (Ok x) inventory node body ok reports fault a b =
    let below = steps.refused_exact {X = X} (Ok x) inventory node body ok _ fault a b in
    (λ e. absurd (cc), λ refused. absurd (cc (below.1 refused)))
refused_exact {X = X} (Err (faults.Apply f)) inventory node body ok reports fault a b =
    let below = steps.refused_exact {X = X} (Err f) inventory node body _ reports.1 fault a b in (
      λ e. let same : f ≡ fault = cc in below.0 (ap Err same),
      λ refused. let same : f ≡ fault = cc (below.1 refused) in ap (λ (g : ApplyFault). Err (faults.Apply g)) same,
    )
refused_exact (Err faults.NoReading) inventory node body ok reports fault a b = absurd reports
refused_exact {X = X} (Err faults.Memory) inventory node body ok reports fault a b =
    let below = steps.refused_exact {X = X} (Err apply.Memory) inventory node body _ reports fault a b in
    (λ e. absurd (cc), λ refused. absurd (b (cc (below.1 refused))))
