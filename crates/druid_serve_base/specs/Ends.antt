-- Why a cluster is not served.
use Rattle.std.specs.Prelude.{ℕ, List, codes}
use Rattle.druid_serve_config.specs.declared.fault.ConfigFault.{ConfigFault}
use Rattle.druid_serve_config.specs.declared.fault.ConfigFault.TheVariants as config
use Rattle.druid_serve_base.specs.declared.fault.ClusterFault.{ClusterFault}
use Rattle.druid_serve_base.specs.declared.fault.ClusterFault.TheVariants.{BadFolder, Device}
use Rattle.druid_serve_base.specs.declared.serve_fault.ServeFault.{ServeFault}
use Rattle.druid_serve_base.specs.declared.serve_fault.ServeFault.TheVariants as served

-- a config that is none, or out of memory
abbrev pub of_config : ConfigFault → ServeFault
of_config config.Refused = served.BadConfig
of_config config.Memory = served.Device

-- what a cluster is not served for once its config was read
abbrev pub of_cluster : ClusterFault → ServeFault
of_cluster BadFolder = served.BadFolder
of_cluster Device = served.Device

-- what is reported of it
abbrev pub fault_text : ServeFault → List ℕ
fault_text served.BadConfig = codes "bad config"
fault_text served.BadFolder = codes "bad folder"
fault_text served.Device = codes "device"
