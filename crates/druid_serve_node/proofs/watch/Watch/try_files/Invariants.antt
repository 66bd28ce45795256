use Rattle.std.proofs.Common.{◌≡◌, ◌≢◌, OnOk, take}
use Rattle.std.specs.List.{FoldsTo}
use Rattle.std.specs.declared.cmp.Ordering.TheVariants.{Greater}
use Rattle.druid_segment_descriptor.specs.Mark.{mark_cmp}
use Rattle.druid_folder.specs.Folder.{names_of}
use Rattle.druid_serve_node.specs.Looks.{IsTried}
use Rattle.druid_serve_node.proofs.watch.Watch.try_files.Given as goal

abbrev pub invariant-loop-name : goal.invariant-loop-name
invariant-loop-name g l = record {
  tried : OnOk l.tried (FoldsTo (IsTried g.I.Incarnation.number l.look) l.initial.self (names_of (take l.name-index l.names)) l.self);
  risen : mark_cmp l.initial.self.seen l.self.seen ≢ Greater;
  own : l.initial.self.seen.incarnation ≡ g.I.Incarnation.number → l.self.seen.incarnation ≡ g.I.Incarnation.number;
  content : g.F.Folder.is_honest l.folder → g.F.Folder.content l.folder ≡ g.F.Folder.content l.initial.folder;
  honest : g.F.Folder.is_honest l.folder → g.F.Folder.is_honest l.initial.folder;
}
