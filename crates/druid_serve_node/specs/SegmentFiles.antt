-- Segment files that are read and decoded before they are loaded.
use Rattle.std.specs.Prelude.{◌≡◌, List, Ok, IfOk}
use Rattle.druid_folder.specs.Folder.{Content, read_part, bytes_read}
use Rattle.druid_node.specs.Files.{file_at, IsDecoded}
use Rattle.druid_serve_node.specs.declared.segment_files.ReadFile.{ReadFile}
use Rattle.druid_serve_node.specs.declared.segment_files.DecodedFile.{DecodedFile}

-- what was read is what the folder has under the name
abbrev pub IsRead : Content → ReadFile → Type 0
IsRead files file = IfOk file.read (λ found. bytes_read found ≡ read_part (files file.name.now))

-- under the same name, what was decoded of what was read
abbrev pub IsDecodedOf : ReadFile → DecodedFile → Type 0
IsDecodedOf file decoded = (decoded.name.now ≡ file.name.now) × IfOk decoded.segment (IsDecoded file.name.now file.read)

-- where a segment was decoded it is that of what the folder has under the name
abbrev pub IsFound : Content → DecodedFile → Type 0
IsFound files file = IfOk file.segment (λ s. file_at file.name.now (read_part (files file.name.now)) ≡ Ok s.0)
