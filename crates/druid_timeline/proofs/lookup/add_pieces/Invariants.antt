use Rattle.std.proofs.Common.{◌≡◌, ◌-◌, ◌<◌, ◌++◌, length, map, drop}
use Rattle.std.specs.List.{All, Contains}
use Rattle.druid_timeline_chunks.specs.Chunks.{members_at}
use Rattle.druid_timeline.specs.Known.{AreKnown}
use Rattle.druid_timeline.specs.Pieces.{ArePartitions, shown_of}
use Rattle.druid_timeline.proofs.LookupLemmas.{cut_runs}
use Rattle.druid_timeline.proofs.SweepLemmas.{Run}
use Rattle.druid_timeline.proofs.lookup.add_pieces.Given as goal

abbrev pub invariant-loop-place : goal.invariant-loop-place
invariant-loop-place l = record {
  known : AreKnown l.chunks l.known;
  parts : All (λ piece. ArePartitions (members_at l.chunks piece.group) piece.parts) l.pieces.items;
  shown : map shown_of l.pieces.items ++ cut_runs l.part (drop l.place l.runs) ≡ map shown_of l.fn.pieces.items ++ cut_runs l.part l.runs;
  beyond : (r : Run) → Contains (drop l.place l.runs) r → l.part.start < r.0.end;
}

abbrev pub decreases-loop-place : goal.decreases-loop-place
decreases-loop-place l = length l.runs - l.place
