use Rattle.std.proofs.Common.{◌≡◌, ◌++◌, ◌∷◌, [], List, sym, subst, rules}
use Rattle.std.specs.List.{AllZip}
use Rattle.druid_serve_node.specs.SegmentFiles.{IsDecodedOf}
use Rattle.druid_serve_node.specs.declared.segment_files.DecodedFile.{DecodedFile}
use Rattle.druid_serve_node.proofs.SegmentFileLemmas.{zip_push}
use Rattle.druid_serve_node.proofs.segment_files.decode_in_turn.Goals as goal

pub loop-file-preserved : goal.loop-file-preserved
loop-file-preserved c =
    let made : c.push.new.self.items ≡ c.loop-file.decoded.items ++ c.decode.result ∷ [] = search rules in
    subst (λ (ds : List DecodedFile). AllZip IsDecodedOf (c.loop-file.yielded ++ c.in-Some.file ∷ []) ds) (sym made)
    (zip_push IsDecodedOf c.loop-file.yielded c.loop-file.decoded.items c.in-Some.file c.decode.result c.loop-file.invariant c.decode.ensures)
