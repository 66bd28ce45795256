use Rattle.std.proofs.Common.{rules, length}
use Rattle.std.specs.List.{AllAdjacentBelow}
use Rattle.druid_partial_text.specs.Borrowed.{IsBefore}
use Rattle.druid_partial_text.proofs.MadeLemmas.{not_ascending}
use Rattle.druid_partial_text.proofs.partial_reader.in_order.Goals as goal

pub returns-else-is_ascending-clause-none : goal.returns-else-is_ascending-clause-none
returns-else-is_ascending-clause-none c rows moved ordered =
    let sorted = c.sort_by_key.new.groups.items in
    let not : AllAdjacentBelow IsBefore sorted (length sorted) → ⊥ = search rules in
    not_ascending c.args.groups.items sorted rows c.sort_by_key.ensures.permutation c.sort_by_key.ensures.sorted not moved ordered
