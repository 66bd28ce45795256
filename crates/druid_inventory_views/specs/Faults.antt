-- Why nothing was published.
use Rattle.std.specs.Prelude.{◌≢◌, ℕ, List}
use Rattle.druid_segment_descriptor.specs.declared.reply.Body.{Body}
use Rattle.druid_inventory.specs.Entry.{Entry}
use Rattle.druid_inventory.specs.Step.{StepsAt, Reports}
use Rattle.druid_inventory.specs.declared.fault.ApplyFault.{ApplyFault}
use Rattle.druid_inventory.specs.declared.fault.ApplyFault.TheVariants as apply
use Rattle.druid_inventory.specs.declared.fault.Outcome.{Outcome}
use Rattle.druid_inventory_views.specs.declared.fault.PublishFault.{PublishFault}
use Rattle.druid_inventory_views.specs.declared.fault.PublishFault.TheVariants as faults

-- out of memory, or why else a reply is not applied
abbrev pub publish_fault : ApplyFault → PublishFault
publish_fault apply.Memory = faults.Memory
publish_fault fault = faults.Apply fault

-- the fault that tells why a reply of a node is not published; out of memory only where nothing is to be refused
abbrev pub ReportsPublish : List Entry → ℕ → Body → PublishFault → Type 0
ReportsPublish inventory node body (faults.Apply fault) = (fault ≢ apply.Memory) × Reports inventory node body fault
ReportsPublish inventory node body faults.NoReading = ⊥
ReportsPublish inventory node body faults.Memory = (outcome : Outcome) × (new : Entry) × StepsAt inventory node body outcome new
