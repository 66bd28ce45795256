use Rattle.std.proofs.Common.{◌≡◌, take}
use Rattle.druid_serve_config.specs.Configs.{names_of}
use Rattle.druid_serve_config.proofs.config.names_in.Given as goal

abbrev pub invariant-loop-node : goal.invariant-loop-node
invariant-loop-node l = l.names.items ≡ names_of (take l.node-index l.nodes)
