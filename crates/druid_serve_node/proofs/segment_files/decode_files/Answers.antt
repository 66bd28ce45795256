use Rattle.std.proofs.Common.{◌∙◌}
use Rattle.std.proofs.lemmas.Result.{IfOk-weaker}
use Rattle.druid_serve_node.proofs.SegmentFileLemmas.{same_names, all_found}
use Rattle.druid_serve_node.proofs.segment_files.decode_files.Goals as goal

pub returns-then-bytes_in-lt-SMALL-clause-names : goal.returns-then-bytes_in-lt-SMALL-clause-names
returns-then-bytes_in-lt-SMALL-clause-names g c =
    IfOk-weaker c.decode_in_turn.result _ _ (λ v zip. same_names c.in_ok-files.files.items v.items zip ∙ c.in_ok-files.ensures.names) c.decode_in_turn.ensures

pub returns-then-bytes_in-lt-SMALL-clause-found : goal.returns-then-bytes_in-lt-SMALL-clause-found
returns-then-bytes_in-lt-SMALL-clause-found g c honest =
    IfOk-weaker c.decode_in_turn.result _ _ (λ v zip. all_found (g.F.Folder.content c.args.folder.now) c.in_ok-files.files.items v.items zip (c.in_ok-files.ensures.read honest)) c.decode_in_turn.ensures

pub returns-clause-names : goal.returns-clause-names
returns-clause-names g c =
    IfOk-weaker c.decode_at_once.result _ _ (λ v zip. same_names c.in_ok-files.files.items v.items zip ∙ c.in_ok-files.ensures.names) c.decode_at_once.ensures

pub returns-clause-found : goal.returns-clause-found
returns-clause-found g c honest =
    IfOk-weaker c.decode_at_once.result _ _ (λ v zip. all_found (g.F.Folder.content c.args.folder.now) c.in_ok-files.files.items v.items zip (c.in_ok-files.ensures.read honest)) c.decode_at_once.ensures
