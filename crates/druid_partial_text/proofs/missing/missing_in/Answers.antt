use Rattle.std.proofs.Common.{◌≡◌, ◌↔◌, List, Some, IsTrue, Contains, rules, sym, subst, ◌∙◌}
use Rattle.std.proofs.lemmas.Bool.{false≢true}
use Rattle.serde_json.specs.View.{items_view}
use Rattle.druid_base.specs.Each.{each_of}
use Rattle.druid_query.specs.Asked.{Asked, asked_at}
use Rattle.druid_partial_text.proofs.MissedLemmas.{missed, not_missed}
use Rattle.druid_partial_text.proofs.missing.missing_in.Goals as goal

abbrev AllIn : List Asked → List Asked → Type 0
AllIn asked missing = (a : Asked) → Contains missing a → Contains asked a

pub returns-then-branch-clause-some : goal.returns-then-branch-clause-some
returns-then-branch-clause-some c =
    let made = c.in_ok-missing.missing.items in
    let read : each_of (asked_at c.args.sub.now.query.source) (items_view c.args.values.now) ≡ Some made = search rules in
    let reported = subst (λ (l : List Asked). IsTrue c.in_ok-were_asked.field-0 ↔ AllIn c.asked.result.now l) c.deref.ensures.value c.in_ok-were_asked.ensures in
    let of_all = subst (λ (l : List Asked). IsTrue c.in_ok-were_asked.field-0 ↔ AllIn l made) c.asked.ensures reported in
    missed c.args.sub.now (items_view c.args.values.now) made read (of_all.0 c.if-branch.true)

pub returns-else-branch-clause-none : goal.returns-else-branch-clause-none
returns-else-branch-clause-none c =
    let made = c.in_ok-missing.missing.items in
    let read : each_of (asked_at c.args.sub.now.query.source) (items_view c.args.values.now) ≡ Some made = search rules in
    let reported = subst (λ (l : List Asked). IsTrue c.in_ok-were_asked.field-0 ↔ AllIn c.asked.result.now l) c.deref.ensures.value c.in_ok-were_asked.ensures in
    let of_all = subst (λ (l : List Asked). IsTrue c.in_ok-were_asked.field-0 ↔ AllIn l made) c.asked.ensures reported in
    not_missed c.args.sub.now (items_view c.args.values.now) made read (λ all. false≢true (sym c.if-branch.false ∙ of_all.1 all))
