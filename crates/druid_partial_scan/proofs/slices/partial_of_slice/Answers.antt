use Rattle.std.proofs.Common.{List, ap, subst}
use Rattle.std.specs.List.{flat_map}
use Rattle.std.proofs.lemmas.Result.{IfOk-weaker}
use Rattle.druid_partial.specs.Groups.{Group, IsResult}
use Rattle.druid_partial.specs.Partials.{kinds_of}
use Rattle.druid_partial_scan.specs.Rows.{counted_by}
use Rattle.druid_partial_scan.proofs.slices.partial_of_slice.Goals as goal

pub returns-clause-result : goal.returns-clause-result
returns-clause-result c =
    let query = c.args.query.now in
    let rows = ap (flat_map (counted_by query c.args.slice.now.0.now)) c.deref.ensures.value in
    IfOk-weaker c.partial_over.result _ _ (λ partial result. subst (λ (reported : List Group). IsResult (kinds_of query) reported partial.groups) rows result) c.partial_over.ensures.result
