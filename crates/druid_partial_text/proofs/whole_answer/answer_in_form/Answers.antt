use Rattle.std.proofs.Common.{rules, ◌≡◌, ◌∙◌, [], List, ℕ, All, IsUtf8, Ok, sym, subst}
use Rattle.json.specs.Lex.{tokens}
use Rattle.druid_query.specs.Query.{Query}
use Rattle.druid_partial.specs.Answer.{Answer}
use Rattle.druid_partial.specs.Partials.{kinds_of, IsGroupFor}
use Rattle.druid_partial_text.specs.Answers.{IsAnswerOf}
use Rattle.druid_partial_text.specs.Spelt.{SpellsAnswer}
use Rattle.druid_partial_text.proofs.MadeLemmas.{reported_valid}
use Rattle.druid_partial_text.proofs.SpeltLemmas.{answer_is}
use Rattle.druid_base.proofs.ClauseLemmas.{if_some}
use Rattle.druid_partial_text.proofs.whole_answer.answer_in_form.Goals as goal

pub new-requires : goal.new-requires
new-requires c =
    let same : c.query.result.now ≡ c.args.sub.now.query = search rules in
    let kinds : c.in_ok-kinds.kinds.items ≡ kinds_of c.args.sub.now.query = search rules in
    let rest = (if_some _ _ _ c.in-Some.is c.in_ok-groups.ensures.spells).2 in
    let each = subst (λ (q : Query). All (IsGroupFor q) c.in-Some.groups.items) same (if_some _ _ _ c.in-Some.is c.in_ok-groups.ensures.each) in
    let words = if_some _ _ _ c.in-Some.is c.in_ok-groups.ensures.words in
    reported_valid c.args.sub.now.query rest.content c.in_ok-kinds.kinds.items c.in-Some.groups.items c.in-Some-in_order.groups.items (c.in-Some.groups.items, rest.read, each) rest.read
    c.in-Some-in_order.ensures.some c.in-Some-in_order.ensures.ordered words kinds

pub returns-clause-ok : goal.returns-clause-ok
returns-clause-ok c =
    let same : c.query.result.now ≡ c.args.sub.now.query = search rules in
    let kinds : c.in_ok-kinds.kinds.items ≡ kinds_of c.args.sub.now.query = search rules in
    let text : c.in-Ok.text.now ≡ c.args.bytes.now = search rules in
    let utf8 : IsUtf8 c.args.bytes.now = search rules in
    let spelt = subst (λ (bytes : List ℕ). SpellsAnswer (tokens bytes) c.in-Some.groups.items) text (if_some _ _ _ c.in-Some.is c.in_ok-groups.ensures.spells) in
    let each = subst (λ (q : Query). All (IsGroupFor q) c.in-Some.groups.items) same (if_some _ _ _ c.in-Some.is c.in_ok-groups.ensures.each) in
    let made : c.new-3.result ≡ record { partial = record { kinds = c.in_ok-kinds.kinds.items; groups = c.in-Some-in_order.groups.items }; missing = [] } =
    c.new-3.ensures ∙ (λ i. record { partial = c.new.ensures i; missing = c.new-2.ensures.items i }) in
    subst (λ (a : Answer). IsAnswerOf c.args.sub.now c.args.bytes.now (Ok a)) (sym made)
    (answer_is c.args.sub.now c.args.bytes.now c.in_ok-kinds.kinds.items c.in-Some.groups.items c.in-Some-in_order.groups.items utf8 spelt each
    c.in-Some-in_order.ensures.some c.in-Some-in_order.ensures.ordered kinds)
