-- The call that a note of a `DiskFolder` tells of.
use Rattle.std.specs.Prelude.{ℕ, List, Option, Result, Vec}
use Rattle.std.specs.declared.alloc.Global.{Global}
use Rattle.std.specs.declared.string.String.{String}
use Rattle.std.specs.Option.{option_map}
use Rattle.std.specs.Result.{result_ok}
use Rattle.druid_folder_store.specs.Event.{Event, did_list, did_read, did_write, did_sync, did_rename, did_remove}
use Rattle.druid_folder.specs.declared.fault.StoreFault.{StoreFault}
use Rattle.druid_folder.specs.Folder.{bytes_read, names_of}
use Rattle.druid_folder_store.specs.declared.log.FolderNote.{FolderNote}
use Rattle.druid_folder_store.specs.declared.log.FolderNote.TheVariants as note

-- the names that were answered, and None where there was a failure
abbrev pub names_answered : Result (Vec (String Global) Global) StoreFault → Option (List (List ℕ))
names_answered answer = option_map (λ names. names_of names.items) (result_ok answer)

-- the bytes that were
abbrev pub file_answered : Result (Option (Vec ℕ Global)) StoreFault → Option (Option (List ℕ))
file_answered answer = option_map bytes_read (result_ok answer)

abbrev pub event_of : FolderNote → Event
event_of (note.List answer) = did_list (names_answered answer.now)
event_of (note.Read name answer) = did_read name.now (file_answered answer.now)
event_of (note.Write name bytes done) = did_write name.now bytes.now done
event_of (note.Sync done) = did_sync done
event_of (note.Rename from to done) = did_rename from.now to.now done
event_of (note.Remove name done) = did_remove name.now done
