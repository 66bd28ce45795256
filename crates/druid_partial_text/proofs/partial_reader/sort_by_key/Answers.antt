use Rattle.std.proofs.Common.{rules}
use Rattle.std.specs.Ordering.{is_lt}
use Rattle.std.proofs.lemmas.List.Sorted.{ranks_by, answers_always}
use Rattle.druid_partial.specs.Groups.{key_of, key_cmp}
use Rattle.druid_partial.specs.Orders.{key_cmp-total}
use Rattle.druid_partial_text.proofs.partial_reader.sort_by_key.Goals as goal

pub returns-clause-sorted : goal.returns-clause-sorted
returns-clause-sorted c =
    c.sort_unstable_by.ensures.sorted (λ g h. is_lt (key_cmp (key_of g) (key_of h))) (ranks_by key_cmp-total key_of) (answers_always _ _ _ (λ f a r f' called. search rules))
