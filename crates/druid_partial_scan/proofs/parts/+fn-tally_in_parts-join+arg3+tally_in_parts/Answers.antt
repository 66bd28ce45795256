use Rattle.std.proofs.Common.{◌∙◌, ap, rules}
use Rattle.druid_partial_scan.specs.Cells.{joined_cells}
use Rattle.druid_partial_scan.proofs.BothLemmas.{both_alike, both_tallied}
use Rattle.druid_partial_scan.proofs.parts.+fn-tally_in_parts-join+arg3+tally_in_parts.Goals as goal

pub join_cells-requires-clause-width : goal.join_cells-requires-clause-width
join_cells-requires-clause-width g t c =
    (both_alike c.args.query.now c.args.lists.now c.split_at.result.0.now c.split_at.result.1.now c.in_ok-cells.field-0 c.in_ok-others.field-0 c.in-Some.cells c.in-Some-2.others c.in-Some.is c.in-Some-2.is (search rules) (search rules)).0

pub join_cells-requires-clause-room : goal.join_cells-requires-clause-room
join_cells-requires-clause-room g t c =
    (both_alike c.args.query.now c.args.lists.now c.split_at.result.0.now c.split_at.result.1.now c.in_ok-cells.field-0 c.in_ok-others.field-0 c.in-Some.cells c.in-Some-2.others c.in-Some.is c.in-Some-2.is (search rules) (search rules)).1

pub returns : goal.returns
returns g t c =
    both_tallied c.args.query.now c.args.lists.now c.args.slices.now c.split_at.result.0.now c.split_at.result.1.now _ c.in_ok-cells.field-0 c.in_ok-others.field-0 c.in-Some.cells c.in-Some-2.others c.join_cells.new.self c.requires.2
    c.split_at.ensures.front c.split_at.ensures.back c.join_cells.ensures.width
    (c.join_cells.ensures.groups ∙ ap (λ ks. joined_cells ks c.in-Some.cells.groups c.in-Some-2.others.groups) (c.deref.ensures.value ∙ c.in_ok-kinds.ensures))
    c.in-Some.is c.in-Some-2.is (search rules) (search rules)
