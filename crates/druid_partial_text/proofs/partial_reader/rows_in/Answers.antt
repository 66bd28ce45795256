use Rattle.std.proofs.Common.{◌≡◌, Some, rules}
use Rattle.serde_json.specs.Find.{as_array}
use Rattle.serde_json.specs.View.{view, items_view}
use Rattle.druid_partial_text.specs.Borrowed.{AreRows}
use Rattle.druid_partial_text.proofs.MadeLemmas.{no_such_rows}
use Rattle.druid_partial_text.proofs.partial_reader.rows_in.Goals as goal

pub returns-else-are_rows-clause-none : goal.returns-else-are_rows-clause-none
returns-else-are_rows-clause-none c rows listed =
    let items = items_view c.in_ok-rows.rows.now.items in
    let is : Some items ≡ as_array (view c.args.value.now) = search rules in
    let not : AreRows c.args.query.now items → ⊥ = search rules in
    no_such_rows c.args.query.now (view c.args.value.now) items is not rows listed
