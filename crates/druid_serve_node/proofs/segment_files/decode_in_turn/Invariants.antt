use Rattle.std.specs.List.{AllZip}
use Rattle.druid_serve_node.specs.SegmentFiles.{IsDecodedOf}
use Rattle.druid_serve_node.proofs.segment_files.decode_in_turn.Given as goal

abbrev pub invariant-loop-file : goal.invariant-loop-file
invariant-loop-file l = AllZip IsDecodedOf l.yielded l.decoded.items
