use Rattle.std.proofs.Common.{◌≡◌, ◌++◌}
use Rattle.std.specs.List.{filter}
use Rattle.druid_folder.specs.Folder.{names_of}
use Rattle.druid_serve_node.specs.Looks.{is_gone, gone_names}
use Rattle.druid_serve_node.proofs.known_files.KnownFiles.gone_names.Given as goal

abbrev pub invariant-loop-name : goal.invariant-loop-name
invariant-loop-name l = names_of l.gone.items ++ filter (is_gone (names_of l.found)) (names_of l.name-iterator) ≡ gone_names l.self (names_of l.found)
