use Rattle.std.proofs.Common.{take}
use Rattle.druid_folder.specs.Folder.{nothing, names_of}
use Rattle.druid_folder_store.specs.Record.{content_after}
use Rattle.druid_folder_store.proofs.Names.{Collected}
use Rattle.druid_folder_store.proofs.record.names_in.Given as goal

abbrev pub invariant-loop-call : goal.invariant-loop-call
invariant-loop-call l = Collected (content_after nothing l.calls) (take l.call-index l.calls) (names_of l.names.items)
