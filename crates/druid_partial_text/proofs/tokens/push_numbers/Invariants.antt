use Rattle.std.proofs.Common.{◌≡◌, ◌++◌, drop}
use Rattle.druid_partial_text.specs.Written.{numbers_data}
use Rattle.druid_partial_text.specs.Tokens.{tokens_of, rest_of}
use Rattle.druid_partial_text.proofs.TokenLemmas.{number_items}
use Rattle.druid_partial_text.proofs.tokens.push_numbers.Given as goal

abbrev pub invariant-loop-number : goal.invariant-loop-number
invariant-loop-number l =
    (l.out.before ≡ l.fn.out.before)
    × (l.out.tokens ++ rest_of (number_items (drop l.number-index l.numbers)) ≡ l.fn.out.tokens ++ tokens_of (numbers_data l.numbers))
