use Rattle.std.proofs.Common.{◌≡◌, ◌++◌, drop}
use Rattle.druid_broker.specs.Routes.{names_data}
use Rattle.druid_partial_text.specs.Tokens.{tokens_of, rest_of}
use Rattle.druid_broker.proofs.NameLemmas.{name_items}
use Rattle.druid_broker.proofs.inventory_response.push_names.Given as goal

abbrev pub invariant-loop-name : goal.invariant-loop-name
invariant-loop-name l =
    (l.out.before ≡ l.fn.out.before)
    × (l.out.tokens ++ rest_of (name_items (drop l.name-index l.names)) ≡ l.fn.out.tokens ++ tokens_of (names_data l.names))
