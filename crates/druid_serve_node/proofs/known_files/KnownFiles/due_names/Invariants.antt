use Rattle.std.proofs.Common.{◌≡◌, ◌++◌, drop}
use Rattle.druid_folder.specs.Folder.{names_of}
use Rattle.druid_serve_node.specs.Looks.{due_names}
use Rattle.druid_serve_node.proofs.known_files.KnownFiles.due_names.Given as goal

abbrev pub invariant-loop-name : goal.invariant-loop-name
invariant-loop-name l = names_of l.due.items ++ due_names l.look l.self (names_of (drop l.name-index l.found)) ≡ due_names l.look l.self (names_of l.found)
