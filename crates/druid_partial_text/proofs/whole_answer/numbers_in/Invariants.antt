use Rattle.std.proofs.Common.{◌≡◌, length}
use Rattle.druid_partial.specs.Groups.{AreWords}
use Rattle.druid_partial_text.specs.Read.{number_or_null}
use Rattle.druid_partial_text.specs.Spelt.{SpellsItems}
use Rattle.druid_partial_text.proofs.whole_answer.numbers_in.Given as goal

abbrev pub invariant-loop : goal.invariant-loop
invariant-loop l = SpellsItems number_or_null 0 l.fn.reader l.reader (l.numbers.items) × (length l.numbers.items ≡ l.counter) × AreWords l.numbers.items
