use Rattle.std.proofs.Common.{◌≡◌, ◌+◌, ◌-◌, ◌^◌, ◌≤◌, min}
use Rattle.std.specs.List.{sum_by}
use Rattle.druid_serve_node.specs.Totals.{segments_in, rows_in, bytes_in, total}
use Rattle.druid_serve_node.proofs.known_files.KnownFiles.node_state.Given as goal

abbrev pub invariant-loop-state : goal.invariant-loop-state
invariant-loop-state l =
    (min (l.segments + sum_by segments_in l.state-iterator) (2 ^ 64 - 1) ≡ total segments_in l.self)
    × (min (l.rows + sum_by rows_in l.state-iterator) (2 ^ 64 - 1) ≡ total rows_in l.self)
    × (min (l.bytes + sum_by bytes_in l.state-iterator) (2 ^ 64 - 1) ≡ total bytes_in l.self)
    × (l.segments ≤ 2 ^ 64 - 1) × (l.rows ≤ 2 ^ 64 - 1) × (l.bytes ≤ 2 ^ 64 - 1)
