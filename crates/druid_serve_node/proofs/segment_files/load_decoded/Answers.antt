use Rattle.std.proofs.Common.{IsOk}
use Rattle.std.proofs.lemmas.List.Elements.{All-push}
use Rattle.druid_serve_node.specs.declared.segment_files.DecodedFile.{DecodedFile}
use Rattle.druid_serve_node.proofs.segment_files.load_decoded.Goals as goal

pub loop-file-preserved : goal.loop-file-preserved
loop-file-preserved g c = record {
  ok = All-push (λ (f : DecodedFile). IsOk f.segment) c.loop-file.yielded c.in-Some.file c.loop-file.invariant.ok c.in_ok-load_one.ensures.ok;
  own = λ own. c.in_ok-load_one.ensures.own;
}
