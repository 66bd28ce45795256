use Rattle.std.proofs.Common.{◌≡◌, All, IfErr, map, take}
use Rattle.druid_folder.specs.Folder.{IsOwnFault, names_of}
use Rattle.druid_serve_node.specs.SegmentFiles.{IsRead}
use Rattle.druid_serve_node.specs.declared.segment_files.ReadFile.{ReadFile}
use Rattle.druid_serve_node.proofs.segment_files.read_files.Given as goal

abbrev pub invariant-loop-name : goal.invariant-loop-name
invariant-loop-name g l = record {
  names : map (λ (f : ReadFile). f.name.now) l.files.items ≡ names_of (take l.name-index l.names);
  own : All (λ (f : ReadFile). IfErr f.read IsOwnFault) l.files.items;
  read : g.F.Folder.is_honest l.folder → g.F.Folder.is_honest l.initial.folder × (g.F.Folder.content l.folder ≡ g.F.Folder.content l.initial.folder)
      × All (IsRead (g.F.Folder.content l.initial.folder)) l.files.items;
}
