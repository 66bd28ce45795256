use Rattle.std.proofs.Common.{◌≡◌, All, IsOk}
use Rattle.druid_serve_node.specs.declared.segment_files.DecodedFile.{DecodedFile}
use Rattle.druid_serve_node.proofs.segment_files.load_decoded.Given as goal

abbrev pub invariant-loop-file : goal.invariant-loop-file
invariant-loop-file g l = record {
  ok : All (λ (f : DecodedFile). IsOk f.segment) l.yielded;
  own : l.initial.seen.incarnation ≡ g.I.Incarnation.number → l.seen.incarnation ≡ g.I.Incarnation.number;
}
