use Rattle.std.proofs.Common.{◌≡◌, Some, is_some, option_and_then, codes, true, false, rules, subst}
use Rattle.std.specs.List.{list_all}
use Rattle.serde_json.specs.Find.{get, as_array}
use Rattle.serde_json.specs.View.{view, items_view}
use Rattle.druid_query.specs.Asked.{asked_at}
use Rattle.druid_query.specs.Query.{Query}
use Rattle.druid_partial_text.specs.Borrowed.{AreRows}
use Rattle.druid_partial_text.proofs.MissedLemmas.{no_pieces, lists_read}
use Rattle.druid_partial_text.proofs.answer_reader.listed_in.Goals as goal

pub returns-then-not-are_pieces-clause-none : goal.returns-then-not-are_pieces-clause-none
returns-then-not-are_pieces-clause-none c =
    let d = view c.args.value.now in
    let vs = c.in_ok-missing.missing.now in
    let is : Some (items_view vs) ≡ option_and_then as_array (get (codes "missing") d) = search rules in
    let none : list_all (λ v. is_some (asked_at c.args.sub.now.query.source (view v))) vs ≡ false = search rules in
    no_pieces c.args.sub.now d vs is none

pub returns-clause-some : goal.returns-clause-some
returns-clause-some c =
    let d = view c.args.value.now in
    let vs = c.in_ok-missing.missing.now in
    let rs = items_view c.in_ok-rows-2.rows.now in
    let is : Some (items_view vs) ≡ option_and_then as_array (get (codes "missing") d) = search rules in
    let reads : list_all (λ v. is_some (asked_at c.args.sub.now.query.source (view v))) vs ≡ true = search rules in
    let found : Some (view c.in_ok-rows.rows.now) ≡ get (codes "rows") d = search rules in
    let each = subst (λ (q : Query). AreRows q rs) c.query-2.ensures c.in_ok-rows-2.ensures.each in
    lists_read c.args.sub.now d (view c.in_ok-rows.rows.now) vs rs is reads found c.in_ok-rows-2.ensures.is each
