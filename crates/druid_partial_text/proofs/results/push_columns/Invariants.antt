use Rattle.std.proofs.Common.{◌≡◌, ◌++◌}
use Rattle.serde_json.specs.Data.{object}
use Rattle.druid_partial_text.specs.Tokens.{tokens_of}
use Rattle.druid_partial_text.specs.Named.{members_by}
use Rattle.druid_partial_text.proofs.NamedLemmas.{rest_by}
use Rattle.druid_partial_text.proofs.results.push_columns.Given as goal

abbrev pub invariant-loop-name : goal.invariant-loop-name
invariant-loop-name l =
    (l.out.before ≡ l.fn.out.before)
    × (l.out.tokens ++ rest_by l.group l.name-iterator ≡ l.fn.out.tokens ++ tokens_of (object (members_by l.group l.columns.entries)))
