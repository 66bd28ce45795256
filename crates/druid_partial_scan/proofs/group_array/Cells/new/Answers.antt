use Rattle.std.proofs.Common.{◌∙◌, ap, sym}
use Rattle.druid_partial_scan.specs.Cells.{groups_from}
use Rattle.druid_partial_scan.proofs.FlatLemmas.{no_parts, none_from}
use Rattle.druid_partial_scan.proofs.group_array.Cells.new.Goals as goal

pub invariant_of-result : goal.invariant_of-result
invariant_of-result g c =
    no_parts c.args.width c.args.room _ _ _ (c.in_ok-filled.ensures.items_if_clones_equal (λ y e. e)) c.in_ok-kept.ensures (sym c.in_ok-numbers.numbers.ok.0 ∙ c.in_ok-numbers.ensures.len ∙ c.in-Some.ensures.1)

pub returns : goal.returns
returns g c = λ i. record {
  width = c.args.width;
  groups = (ap (λ l. groups_from c.args.width l c.in_ok-numbers.numbers.items) c.in_ok-kept.ensures ∙ none_from c.args.width c.args.room c.in_ok-numbers.numbers.items) i;
}
