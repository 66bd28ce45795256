use Rattle.std.proofs.Common.{slice_index_or, sym, subst, rules}
use Rattle.std.proofs.lemmas.Result.{IfOk-weaker}
use Rattle.druid_serve_node.specs.SegmentFiles.{IsDecodedOf}
use Rattle.druid_serve_node.specs.declared.segment_files.ReadFile.{ReadFile}
use Rattle.druid_serve_node.proofs.SegmentFileLemmas.{decoded_at_once}
use Rattle.druid_serve_node.proofs.segment_files.decode_at_once.Goals as goal

pub returns : goal.returns
returns g c =
    decoded_at_once c.map_vec.result c.args.files.items (IfOk-weaker c.map_vec.result _ _ (λ v e. search rules) c.map_vec.ensures.len)
    (IfOk-weaker c.map_vec.result _ _ (λ v gives i a b below. let k = (gives i b below).1 in subst (λ (f : ReadFile). IsDecodedOf f (slice_index_or v.items i b)) (sym (k.job_is a)) k.call.met) c.map_vec.ensures.each)
