use Rattle.std.proofs.Common.{rules, ◌≡◌, ◌∷◌, List, All, subst, sym}
use Rattle.std.proofs.lemmas.List.Elements.{All-push}
use Rattle.json.specs.Token.{Token, begin_array}
use Rattle.druid_partial.specs.Groups.{Group}
use Rattle.druid_partial.specs.Partials.{IsGroupFor}
use Rattle.druid_partial_text.specs.Borrowed.{HasWords}
use Rattle.druid_partial_text.specs.Read.{group_at}
use Rattle.druid_partial_text.specs.Spelt.{Spells, SpellsItems}
use Rattle.druid_partial_text.proofs.SpeltLemmas.{items_more}
use Rattle.druid_base.proofs.ClauseLemmas.{if_some}
use Rattle.druid_partial_text.proofs.whole_answer.groups_in.Goals as goal

pub loop-preserved : goal.loop-preserved
loop-preserved c =
    let begins : c.loop.reader ≡ begin_array ∷ c.next.new.self = search rules in
    let one = if_some _ _ _ c.in-Some.is c.in_ok-group-in-Some-BeginArray.ensures.spells in
    let row = subst (λ (old : List Token). Spells group_at 2 old c.group_in.new.reader c.in-Some.group) (sym begins) one in
    let more = items_more group_at 2 c.args.reader.now c.loop.reader c.group_in.new.reader c.loop.groups.items c.in-Some.group c.loop.invariant.0 row in (
      subst (λ (gs : List Group). SpellsItems group_at 2 c.args.reader.now c.group_in.new.reader gs) (sym c.in_ok-push-in-Some-BeginArray.ensures.items) more,
      subst (All (IsGroupFor c.args.query.now)) (sym c.in_ok-push-in-Some-BeginArray.ensures.items) (All-push (IsGroupFor c.args.query.now) c.loop.groups.items c.in-Some.group c.loop.invariant.1 (if_some _ _ _ c.in-Some.is c.in_ok-group-in-Some-BeginArray.ensures.each)),
      subst (All HasWords) (sym c.in_ok-push-in-Some-BeginArray.ensures.items) (All-push HasWords c.loop.groups.items c.in-Some.group c.loop.invariant.2 (if_some _ _ _ c.in-Some.is c.in_ok-group-in-Some-BeginArray.ensures.words)),
    )
