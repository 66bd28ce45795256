use Rattle.std.proofs.Common.{[], ◌∷◌}
use Rattle.std.specs.List.{flat_map}
use Rattle.std.proofs.lemmas.Result.{IfOk-weaker}
use Rattle.druid_partial.specs.Groups.{IsResult}
use Rattle.druid_partial.specs.Partials.{Partial, kinds_of}
use Rattle.druid_partial_scan.specs.Rows.{counted_by}
use Rattle.druid_partial.proofs.MovedLemmas.{piece_result}
use Rattle.druid_partial_scan.proofs.scan.partial_of.Goals as goal

pub returns-clause-result : goal.returns-clause-result
returns-clause-result c =
    let query = c.args.query.now in
    let row_group = counted_by query c.args.segment.now in
    let P : Partial → Type 0 = λ partial. IsResult (kinds_of query) (flat_map row_group (c.args.interval ∷ [])) partial.groups in
    let Q : Partial → Type 0 = λ partial. IsResult (kinds_of query) (row_group c.args.interval) partial.groups in
    IfOk-weaker c.partial_over.result P Q (λ partial. piece_result query row_group c.args.interval partial.groups) c.partial_over.ensures.result
