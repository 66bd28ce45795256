use Rattle.std.proofs.Common.{◌≡◌, drop}
use Rattle.druid_partial_scan.specs.Slices.{texts_in, room_over}
use Rattle.druid_partial_scan.proofs.texts.room_over.Given as goal

abbrev pub invariant-loop-texts : goal.invariant-loop-texts
invariant-loop-texts l = room_over (texts_in (drop l.texts-index l.lists)) l.room ≡ room_over (texts_in l.lists) 1
