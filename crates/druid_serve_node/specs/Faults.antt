-- What is named of a start that failed.
use Rattle.std.specs.Prelude.{◌≡◌, ◌<◌, ℕ, true, string_bytes}
use Rattle.druid_serve_base.specs.declared.fault.ClusterFault.{ClusterFault}
use Rattle.druid_serve_base.specs.declared.fault.ClusterFault.TheVariants.{Device}
use Rattle.druid_serve_base.specs.declared.fault.Cause.{Cause}
use Rattle.druid_serve_base.specs.declared.fault.Cause.TheVariants as cause
use Rattle.druid_serve_base.specs.Faults.{of_store, of_node}
use Rattle.druid_serve_node.specs.Files.{is_segment_file}

-- what is named of the fault of a raise of the incarnation: its file, or memory
abbrev pub IsOfRaise : ClusterFault → Cause → Type 0
IsOfRaise found (cause.File file fault) = ⊥
IsOfRaise found (cause.Incarnation fault) = found ≡ of_store fault
IsOfRaise found (cause.Names fault) = ⊥
IsOfRaise found (cause.Tombstone place fault) = ⊥
IsOfRaise found cause.Owner = ⊥
IsOfRaise found cause.Listener = ⊥
IsOfRaise found cause.Status = ⊥
IsOfRaise found cause.Memory = found ≡ Device

-- what is named of the fault of a load of all segment files: one of these, or the list of names
abbrev pub IsOfLoad : ClusterFault → Cause → Type 0
IsOfLoad found (cause.File file fault) = (is_segment_file (string_bytes file) ≡ true) × (found ≡ of_node fault)
IsOfLoad found (cause.Incarnation fault) = ⊥
IsOfLoad found (cause.Names fault) = found ≡ of_store fault
IsOfLoad found (cause.Tombstone place fault) = ⊥
IsOfLoad found cause.Owner = ⊥
IsOfLoad found cause.Listener = ⊥
IsOfLoad found cause.Status = ⊥
IsOfLoad found cause.Memory = ⊥

-- what is named of the fault of placing tombstones: the place of one in their list, and its fault
abbrev pub IsOfPlacing : ℕ → ClusterFault → Cause → Type 0
IsOfPlacing count found (cause.File file fault) = ⊥
IsOfPlacing count found (cause.Incarnation fault) = ⊥
IsOfPlacing count found (cause.Names fault) = ⊥
IsOfPlacing count found (cause.Tombstone place fault) = (place < count) × (found ≡ of_node fault)
IsOfPlacing count found cause.Owner = ⊥
IsOfPlacing count found cause.Listener = ⊥
IsOfPlacing count found cause.Status = ⊥
IsOfPlacing count found cause.Memory = found ≡ Device
