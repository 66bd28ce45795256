use Rattle.std.proofs.Common.{◌≡◌, ◌++◌, map, drop}
use Rattle.std.specs.List.{All}
use Rattle.druid_timeline_chunks.specs.Chunks.{members_at}
use Rattle.druid_timeline.specs.Known.{AreKnown}
use Rattle.druid_timeline.specs.Pieces.{ArePartitions, cut, shown_at, shown_of}
use Rattle.druid_timeline.proofs.lookup.pieces_in.Given as goal

abbrev pub invariant-loop-part : goal.invariant-loop-part
invariant-loop-part l = record {
  known : AreKnown l.chunks l.known;
  parts : All (λ piece. ArePartitions (members_at l.chunks piece.group) piece.parts) l.pieces.items;
  shown : map shown_of l.pieces.items ++ cut (drop l.part-index l.parts) (map shown_at l.runs) ≡ cut l.parts (map shown_at l.runs);
}
