-- What a node reports of its state: its mark, and how much it has loaded.
use Rattle.std.specs.Prelude.{ℕ, ◌-◌, ◌^◌, min, List, sum_by}
use Rattle.druid_segment_descriptor.specs.Mark.{Point}
use Rattle.druid_telemetry_metrics.specs.declared.families.NodeState.{NodeState}
use Rattle.druid_serve_node.specs.Looks.{File}
use Rattle.druid_serve_node.specs.declared.known_files.FileState.{FileState}
use Rattle.druid_serve_node.specs.declared.known_files.FileState.TheVariants.{Loaded, Refused}

-- the segments of a file, its rows, and its bytes: none where it is not loaded
abbrev pub segments_in : FileState → ℕ
segments_in (Loaded file) = 1
segments_in (Refused next rest) = 0

abbrev pub rows_in : FileState → ℕ
rows_in (Loaded file) = file.rows
rows_in (Refused next rest) = 0

abbrev pub bytes_in : FileState → ℕ
bytes_in (Loaded file) = file.bytes
bytes_in (Refused next rest) = 0

-- a sum over files; the greatest number of 64 bits where it is more
abbrev pub total : (FileState → ℕ) → List File → ℕ
total of files = min (sum_by (λ f. of f.state) files) (2 ^ 64 - 1)

-- at a mark, of a node that knows these files
abbrev pub state_at : Point → List File → NodeState
state_at seen files = record {
  incarnation = seen.incarnation;
  changes = seen.count;
  segments = total segments_in files;
  rows = total rows_in files;
  bytes = total bytes_in files;
}
