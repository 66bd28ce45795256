use Rattle.std.proofs.Common.{◌≡◌, ◌++◌, drop}
use Rattle.druid_filter.specs.Values.{nullable_texts_of}
use Rattle.druid_partial_text.specs.Written.{values_data}
use Rattle.druid_partial_text.specs.Tokens.{tokens_of, rest_of}
use Rattle.druid_partial_text.proofs.TokenLemmas.{value_items}
use Rattle.druid_partial_text.proofs.tokens.push_values.Given as goal

abbrev pub invariant-loop-value : goal.invariant-loop-value
invariant-loop-value l =
    (l.out.before ≡ l.fn.out.before)
    × (l.out.tokens ++ rest_of (value_items (drop l.value-index l.values)) ≡ l.fn.out.tokens ++ tokens_of (values_data (nullable_texts_of l.values)))
