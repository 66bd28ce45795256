-- How what is known of files is kept: only proofs use this.
use Rattle.std.specs.Prelude.{List, map, string_bytes}
use Rattle.std.specs.declared.alloc.Global.{Global}
use Rattle.std.specs.declared.string.String.{String}
use Rattle.druid_serve_node.specs.Looks.{File}
use Rattle.druid_serve_node.specs.declared.known_files.FileState.{FileState}

abbrev pub file_of : String Global × FileState → File
file_of e = record { name = string_bytes e.0; state = e.1 }

abbrev pub files_of : List (String Global × FileState) → List File
files_of entries = map file_of entries
