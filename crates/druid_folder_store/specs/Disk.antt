-- What a folder of the operating system keeps of its calls.
use Rattle.std.specs.Prelude.{ℕ, List}
use Rattle.druid_folder_store.specs.Event.{Event}
use Rattle.druid_folder_store.specs.declared.disk.DiskFolder.{DiskFolder}

-- the calls made on a folder, the newest first
abbrev pub calls_made : {R File Dir D : Type 0} → DiskFolder R File Dir D → List Event
calls_made folder = folder.calls.log.events

-- how many of its calls have failed
abbrev pub disk_failures : {R File Dir D : Type 0} → DiskFolder R File Dir D → ℕ
disk_failures folder = folder.faults
