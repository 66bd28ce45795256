use Rattle.std.proofs.Common.{◌≡◌, ◌≤◌, length, take}
use Rattle.druid_segment_descriptor.specs.Reply.{max_changes}
use Rattle.druid_inventory.proofs.LastLemmas.{LastTo}
use Rattle.druid_inventory.proofs.ReplayedLemmas.{JudgedTo}
use Rattle.druid_inventory.proofs.reply_rules.judge_changes.Given as goal

abbrev pub invariant-loop-i : goal.invariant-loop-i
invariant-loop-i l = record {
  judged : JudgedTo l.set l.changes l.i l.count;
  noted : LastTo l.changes l.i (take l.changed l.last);
  few : l.changed ≤ l.i;
  room : length l.last ≡ max_changes;
}
