use Rattle.std.proofs.Common.{◌≡◌, ◌++◌, drop}
use Rattle.druid_partial_text.specs.Tokens.{tokens_of, rest_of}
use Rattle.druid_partial_text.specs.Named.{rows_by}
use Rattle.druid_partial_text.proofs.ResultLemmas.{row_items}
use Rattle.druid_partial_text.proofs.results.push_rows.Given as goal

abbrev pub invariant-loop-group : goal.invariant-loop-group
invariant-loop-group l =
    (l.out.before ≡ l.fn.out.before)
    × (l.out.tokens ++ rest_of (row_items l.kind l.columns.entries (drop l.group-index l.groups)) ≡ l.fn.out.tokens ++ tokens_of (rows_by l.kind l.columns.entries l.groups))
