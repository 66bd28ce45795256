use Rattle.std.proofs.Common.{◌≡◌, length}
use Rattle.druid_filter.specs.Values.{nullable_texts_of}
use Rattle.druid_base.specs.Fields.{text_or_null}
use Rattle.druid_partial_text.specs.Spelt.{SpellsItems}
use Rattle.druid_partial_text.proofs.whole_answer.values_in.Given as goal

abbrev pub invariant-loop : goal.invariant-loop
invariant-loop l = SpellsItems text_or_null 0 l.fn.reader l.reader (nullable_texts_of l.values.items) × (length l.values.items ≡ l.counter)
