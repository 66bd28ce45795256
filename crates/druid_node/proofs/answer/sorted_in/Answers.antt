use Rattle.std.proofs.Common.{List, subst}
use Rattle.std.proofs.lemmas.List.Sorted.{All-permutation}
use Rattle.druid_partial.specs.Groups.{Group, IsResult}
use Rattle.druid_partial.specs.Partials.{kinds_of}
use Rattle.druid_partial.proofs.MovedLemmas.{moved_result}
use Rattle.druid_node.specs.Placed.{counted_at, IsWithin}
use Rattle.druid_node.proofs.answer.sorted_in.Goals as goal

pub returns-clause-counted : goal.returns-clause-counted
returns-clause-counted c query groups result =
    let held = c.args.held.now in
    subst (λ (reported : List Group). IsResult (kinds_of query) reported groups) (c.in_ok-placed.ensures.reported query)
    (moved_result (kinds_of query) (counted_at query held) c.in_ok-placed.placed.items _ groups c.sort_unstable_by_key.ensures.permutation result)

pub returns-clause-within : goal.returns-clause-within
returns-clause-within c =
    All-permutation (IsWithin c.args.held.now) c.in_ok-placed.placed.items _ c.sort_unstable_by_key.ensures.permutation c.in_ok-placed.ensures.within
