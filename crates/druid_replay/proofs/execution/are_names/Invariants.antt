use Rattle.std.proofs.Common.{take, All}
use Rattle.druid_segment_id.specs.Names.{IsName}
use Rattle.druid_replay.specs.Seen.{texts_in}
use Rattle.druid_replay.proofs.execution.are_names.Given as goal

abbrev pub invariant-loop-node : goal.invariant-loop-node
invariant-loop-node l = All IsName (texts_in (take l.node-index l.nodes))
