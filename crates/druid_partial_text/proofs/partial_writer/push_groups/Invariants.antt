use Rattle.std.proofs.Common.{◌≡◌, ◌++◌, drop}
use Rattle.std.specs.List.{AllWithin}
use Rattle.druid_partial_text.specs.Written.{partial_data, IsHeld}
use Rattle.druid_partial_text.specs.Tokens.{tokens_of, rest_of}
use Rattle.druid_partial_text.proofs.TokenLemmas.{group_items}
use Rattle.druid_partial_text.proofs.partial_writer.push_groups.Given as goal

abbrev pub invariant-loop-group : goal.invariant-loop-group
invariant-loop-group l =
    (l.out.before ≡ l.fn.out.before) × AllWithin IsHeld l.groups 0 l.group-index
    × (l.out.tokens ++ rest_of (group_items (drop l.group-index l.groups)) ≡ l.fn.out.tokens ++ tokens_of (partial_data l.groups))
