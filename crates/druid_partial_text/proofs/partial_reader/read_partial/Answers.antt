use Rattle.std.proofs.Common.{◌≡◌, List, Option, IfNone, rules, subst}
use Rattle.serde_json.specs.Data.{array}
use Rattle.serde_json.specs.View.{view, items_view}
use Rattle.druid_partial.specs.Groups.{Group}
use Rattle.druid_partial.specs.Partials.{Partial}
use Rattle.druid_partial_text.specs.Read.{ReportsGroups}
use Rattle.druid_partial_text.proofs.MadeLemmas.{not_reported}
use Rattle.druid_partial_text.proofs.partial_reader.read_partial.Goals as goal

pub returns-in-Ok-None-clause-read : goal.returns-in-Ok-None-clause-read
returns-in-Ok-None-clause-read c =
    let items = items_view c.in-Some.rows.now in
    let is : view c.args.value.now ≡ array items = search rules in
    let none = subst (λ (o : Option Partial). IfNone o ((groups : List Group) → ReportsGroups c.args.query.now (array items) groups → ⊥)) c.in-Ok-None.field-0-is c.in-Ok-None.ensures.none in
    not_reported c.args.query.now (view c.args.value.now) items is none
