use Rattle.std.proofs.Common.{◌≡◌, length}
use Rattle.druid_folder.specs.Folder.{nothing}
use Rattle.druid_folder_store.specs.Record.{content_after}
use Rattle.druid_folder_store.proofs.record.find.Given as goal

abbrev pub invariant-loop-call : goal.invariant-loop-call
invariant-loop-call l = content_after nothing l.rest l.wanted ≡ content_after nothing l.fn.calls l.fn.name

abbrev pub decreases-loop-call : goal.decreases-loop-call
decreases-loop-call l = length l.rest
