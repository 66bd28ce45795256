-- Why a data node does not start.
use Rattle.std.specs.Prelude.{◌≡◌, ℕ, List, string_bytes}
use Rattle.druid_node.specs.declared.fault.NodeFault.{NodeFault}
use Rattle.druid_node.specs.declared.fault.NodeFault.TheVariants as node
use Rattle.druid_folder.specs.declared.fault.StoreFault.{StoreFault}
use Rattle.druid_folder.specs.declared.fault.StoreFault.TheVariants as store
use Rattle.druid_serve_base.specs.declared.fault.ClusterFault.{ClusterFault}
use Rattle.druid_serve_base.specs.declared.fault.ClusterFault.TheVariants.{BadFolder, Device}
use Rattle.druid_serve_base.specs.declared.fault.Cause.{Cause}
use Rattle.druid_serve_base.specs.declared.fault.Cause.TheVariants as cause

-- an incarnation file that has no number to go on from, or a device that fails
abbrev pub of_store : StoreFault → ClusterFault
of_store store.BadNumber = BadFolder
of_store store.AtEnd = BadFolder
of_store store.BadName = BadFolder
of_store store.Device = Device
of_store store.Memory = Device

-- a segment file that a node refuses, or a device that fails
abbrev pub of_node : NodeFault → ClusterFault
of_node node.Device = Device
of_node (node.Wire fault) = Device
of_node node.Memory = Device
of_node (node.File fault) = BadFolder
of_node node.NameDiffers = BadFolder
of_node node.NotPartitionZero = BadFolder
of_node (node.History fault) = BadFolder
of_node node.NoFile = BadFolder
of_node (node.Stale found) = BadFolder

-- what is named is the file of that name, which was refused for that
abbrev pub NamesFile : List ℕ → NodeFault → Cause → Type 0
NamesFile name why (cause.File file fault) = (string_bytes file ≡ name) × (fault ≡ why)
NamesFile name why (cause.Incarnation fault) = ⊥
NamesFile name why (cause.Names fault) = ⊥
NamesFile name why (cause.Tombstone place fault) = ⊥
NamesFile name why cause.Owner = ⊥
NamesFile name why cause.Listener = ⊥
NamesFile name why cause.Status = ⊥
NamesFile name why cause.Memory = ⊥
