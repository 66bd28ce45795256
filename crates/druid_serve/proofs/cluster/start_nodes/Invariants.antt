use Rattle.std.proofs.Common.{◌≡◌, vec_len, take, count_by}
use Rattle.druid_serve_config.specs.Parts.{has_node}
use Rattle.druid_serve.proofs.cluster.start_nodes.Given as goal
use Rattle.druid_folder_store.specs.Unknown.{unknown_content, unknown_left, unknown_during}

-- the folders of each node are on the devices at its path
abbrev pub ghosts-start_node-D-Device : goal.ghosts-start_node-D-Device
ghosts-start_node-D-Device g a = record {
  content = unknown_content a.config.now.folder 0;
  left = unknown_left a.config.now.folder 0;
  during = unknown_during a.config.now.folder 0;
}

abbrev pub ghosts-start_node-L-Device : goal.ghosts-start_node-L-Device
ghosts-start_node-L-Device g a = record {
  content = unknown_content a.config.now.folder 1;
  left = unknown_left a.config.now.folder 1;
  during = unknown_during a.config.now.folder 1;
}

abbrev pub invariant-loop-place : goal.invariant-loop-place
invariant-loop-place g l = vec_len l.loaders ≡ count_by (has_node l.part) (take l.place l.nodes)
