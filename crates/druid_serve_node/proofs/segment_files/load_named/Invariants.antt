use Rattle.std.proofs.Common.{◌≡◌, true, All, length}
use Rattle.druid_folder.specs.Folder.{names_of}
use Rattle.druid_serve_node.specs.Files.{is_segment_file, IsTaken}
use Rattle.druid_serve_node.proofs.segment_files.load_named.Given as goal

abbrev pub invariant-loop-rest : goal.invariant-loop-rest
invariant-loop-rest g l = record {
  taken : g.F.Folder.is_honest l.folder → g.F.Folder.is_honest l.initial.folder × (g.F.Folder.content l.folder ≡ g.F.Folder.content l.initial.folder)
      × (All (IsTaken (g.F.Folder.content l.initial.folder)) (names_of l.rest) → All (IsTaken (g.F.Folder.content l.initial.folder)) (names_of l.names));
  named : All (λ name. is_segment_file name ≡ true) (names_of l.rest);
  own : l.initial.seen.incarnation ≡ g.I.Incarnation.number → l.seen.incarnation ≡ g.I.Incarnation.number;
}

abbrev pub decreases-loop-rest : goal.decreases-loop-rest
decreases-loop-rest g l = length l.rest
