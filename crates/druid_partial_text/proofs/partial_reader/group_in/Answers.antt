use Rattle.std.proofs.Common.{rules, Some, sym, ap, ◌∙◌}
use Rattle.serde_json.specs.View.{view}
use Rattle.druid_filter.specs.Values.{nullable_texts_of}
use Rattle.druid_partial_text.specs.Borrowed.{parts_borrowed}
use Rattle.druid_partial_text.proofs.MadeLemmas.{group_made}
use Rattle.druid_partial_text.proofs.partial_reader.group_in.Goals as goal

pub returns-clause-read : goal.returns-clause-read
returns-clause-read c =
    group_made (view c.args.value.now) (parts_borrowed c.in-Some.row) (nullable_texts_of c.in_ok-values.values.items) c.in_ok-numbers.numbers.items (search rules) (search rules) (search rules)
    ∙ ap Some (sym c.new.ensures)
