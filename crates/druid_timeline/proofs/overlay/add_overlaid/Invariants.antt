use Rattle.std.proofs.Common.{◌≤◌, ◌+◌, length, drop, map}
use Rattle.druid_timeline.specs.Edited.{IsOverlaid}
use Rattle.druid_timeline.specs.Pieces.{shown_at}
use Rattle.druid_timeline.proofs.LookupLemmas.{cut_runs}
use Rattle.druid_timeline.proofs.OverlayLemmas.{IsPassed}
use Rattle.druid_timeline.proofs.SweepLemmas.{IsSwept}
use Rattle.druid_timeline.proofs.overlay.add_overlaid.Given as goal

abbrev pub invariant-loop-place : goal.invariant-loop-place
invariant-loop-place l = record {
  passed : IsPassed l.part l.runs l.place l.from;
  swept : IsSwept l.part (IsOverlaid (map shown_at l.runs) l.own) l.fn.middle.items l.middle.items l.from;
  low : l.fn.meter ≤ l.meter;
  high : l.meter + length (cut_runs l.part (drop l.place l.runs)) ≤ l.fn.meter + length (cut_runs l.part l.runs);
}
