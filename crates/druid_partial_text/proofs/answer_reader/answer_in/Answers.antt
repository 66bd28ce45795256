use Rattle.std.proofs.Common.{List, rules, subst}
use Rattle.serde_json.specs.Data.{array}
use Rattle.serde_json.specs.View.{items_view}
use Rattle.druid_query.specs.Query.{Query}
use Rattle.druid_partial.specs.Groups.{Group}
use Rattle.druid_partial_text.specs.Read.{ReportsGroups}
use Rattle.druid_partial_text.proofs.MissedLemmas.{none_reported}
use Rattle.druid_partial_text.proofs.answer_reader.answer_in.Goals as goal

pub returns-in_default-2-clause-none : goal.returns-in_default-2-clause-none
returns-in_default-2-clause-none c =
    let ds = items_view c.args.missing.now in
    let rs = items_view c.args.rows.now in
    let none : (groups : List Group) → ReportsGroups c.query.result.now (array rs) groups → ⊥ = search rules in
    none_reported c.args.sub.now ds rs (subst (λ (q : Query). (groups : List Group) → ReportsGroups q (array rs) groups → ⊥) c.query.ensures none)
