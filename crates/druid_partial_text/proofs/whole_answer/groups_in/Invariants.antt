use Rattle.std.proofs.Common.{All}
use Rattle.druid_partial.specs.Partials.{IsGroupFor}
use Rattle.druid_partial_text.specs.Borrowed.{HasWords}
use Rattle.druid_partial_text.specs.Read.{group_at}
use Rattle.druid_partial_text.specs.Spelt.{SpellsItems}
use Rattle.druid_partial_text.proofs.whole_answer.groups_in.Given as goal

abbrev pub invariant-loop : goal.invariant-loop
invariant-loop l =
    SpellsItems group_at 2 l.fn.reader l.reader l.groups.items
    × All (IsGroupFor l.query) l.groups.items × All HasWords l.groups.items
