-- What a data node takes of its folder.
use Rattle.std.specs.Prelude.{◌≡◌, ℕ, Bool, true, List, codes, Option, Some, Ok, IsSome, bytes_eq, drop, length, ◌-◌, ◌+◌}
use Rattle.druid_segment_rows.specs.Segment.{Segment}
use Rattle.druid_folder.specs.Folder.{Content, read_part}
use Rattle.druid_folder_incarnation.specs.Incarnation.{HasNumber, number_text}
use Rattle.druid_node.specs.Files.{file_at}

-- the name ends as those of segment files do
abbrev pub is_segment_file : List ℕ → Bool
is_segment_file name = bytes_eq (codes ".seg") (drop (length name - 4) name)

-- if the name is a segment file's, then its bytes are a segment, and that segment's file has this name
abbrev pub IsTaken : Content → List ℕ → Type 0
IsTaken files name = is_segment_file name ≡ true → (s : Segment) × (file_at name (read_part (files name)) ≡ Ok s)

-- so it is of each file of the folder
abbrev pub HoldsSegments : Content → Type 0
HoldsSegments files = (name : List ℕ) → IsSome (files name) → IsTaken files name

-- a start raised the number of the file, whose old and new content these are, and is of the new one
pub record IsStarted (old new : Option (List ℕ)) (incarnation : ℕ) : Type 0 where
  pub before : ℕ
  pub had : HasNumber old before
  pub next : incarnation ≡ before + 1
  pub has : new ≡ Some (number_text incarnation)
