use Rattle.std.proofs.Common.{List, Option, IfNone, rules, subst}
use Rattle.serde_json.specs.View.{view, items_view}
use Rattle.druid_query.specs.Asked.{Asked}
use Rattle.druid_partial.specs.Groups.{Group}
use Rattle.druid_partial.specs.Answer.{Answer}
use Rattle.druid_partial_text.specs.Missed.{AreLists, BothReport}
use Rattle.druid_partial_text.proofs.MissedLemmas.{no_lists, not_both, lists_answer}
use Rattle.druid_partial_text.proofs.answer_reader.answer_of.Goals as goal

pub returns-in-Ok-None : goal.returns-in-Ok-None
returns-in-Ok-None c =
    let ds = items_view c.in-Some.listed.missing.now in
    let rs = items_view c.in-Some.listed.rows.now in
    let lists : AreLists c.args.sub.now (view c.args.value.now) ds rs = search rules in
    let none = subst (λ (o : Option Answer). IfNone o ((pieces : List Asked) (groups : List Group) → BothReport c.args.sub.now ds rs pieces groups → ⊥)) c.in-Ok-None.field-0-is c.in-Ok-None.ensures.none in
    not_both c.args.sub.now (view c.args.value.now) ds rs lists none

pub returns-in_default : goal.returns-in_default
returns-in_default c = no_lists c.args.sub.now (view c.args.value.now) c.in_default.ensures.none

pub returns-in-Err : goal.returns-in-Err
returns-in-Err c =
    let ds = items_view c.in-Some.listed.missing.now in
    let rs = items_view c.in-Some.listed.rows.now in
    let lists : AreLists c.args.sub.now (view c.args.value.now) ds rs = search rules in
    lists_answer c.args.sub.now (view c.args.value.now) ds rs lists
