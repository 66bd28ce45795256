use Rattle.std.proofs.Common.{◌≡◌, ◌≤◌, length, take}
use Rattle.druid_inventory.proofs.LastLemmas.{LastTo}
use Rattle.druid_inventory.proofs.strict_changes.note_each.Given as goal

abbrev pub invariant-loop-i : goal.invariant-loop-i
invariant-loop-i l = record {
  noted : LastTo l.changes l.i (take l.count l.last);
  few : l.count ≤ l.i;
  room : length l.last ≡ length l.initial.last;
}
