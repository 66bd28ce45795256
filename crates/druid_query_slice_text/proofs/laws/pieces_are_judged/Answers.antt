use Rattle.druid_query.proofs.AskedLemmas.{apart_seen, apart_reported}
use Rattle.druid_query_slice_text.proofs.BackLemmas.{inside_seen, inside_reported}
use Rattle.druid_query_slice_text.proofs.laws.pieces_are_judged.Goals as goal

pub returns-clause-inside : goal.returns-clause-inside
returns-clause-inside c = λ a valid. (inside_seen a, inside_reported a valid)

pub returns-clause-apart : goal.returns-clause-apart
returns-clause-apart c = λ all. (apart_seen all, apart_reported all)
