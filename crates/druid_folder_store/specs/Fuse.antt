-- What a folder in memory has beside its files: the call that is to fail.
use Rattle.std.specs.Prelude.{ℕ, ◌-◌, ◌==◌, Bool, false, Option, Some, None, List, if◌then◌else◌}
use Rattle.druid_folder.specs.Folder.{Content, nothing}
use Rattle.druid_folder_store.specs.declared.memory.MemoryFolder.{MemoryFolder}
use Rattle.druid_folder_store.specs.declared.record.Call.{Call}
use Rattle.druid_folder_store.specs.Record.{calls_of, failures_of, lost_after}

-- the calls that changed its files or looked at them, the oldest first
abbrev pub calls_in : MemoryFolder → List Call
calls_in folder = calls_of folder.files

-- how many calls have failed
abbrev pub failures_in : MemoryFolder → ℕ
failures_in folder = failures_of folder.files

-- what a stop leaves of it that keeps nothing but what was synced
abbrev pub lost_of : MemoryFolder → Content
lost_of folder = lost_after nothing nothing (calls_in folder)

-- the number of the call that fails, where the next one is 0
abbrev pub fuse_of : MemoryFolder → Option ℕ
fuse_of folder = folder.fuse

-- whether the next call fails
abbrev pub fails : Option ℕ → Bool
fails None = false
fails (Some k) = k == 0

-- the fuse after that call
abbrev pub fuse_after : Option ℕ → Option ℕ
fuse_after None = None
fuse_after (Some k) = if k == 0 then None else Some (k - 1)
