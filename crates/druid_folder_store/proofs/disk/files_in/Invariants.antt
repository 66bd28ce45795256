use Rattle.std.proofs.Common.{All}
use Rattle.druid_folder.specs.FileName.{IsFileName}
use Rattle.druid_folder.specs.Folder.{names_of}
use Rattle.druid_folder_store.proofs.disk.files_in.Given as goal

abbrev pub invariant-loop-entry : goal.invariant-loop-entry
invariant-loop-entry g l = All IsFileName (names_of l.names.items)
