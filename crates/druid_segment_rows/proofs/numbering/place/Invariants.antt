use Rattle.std.proofs.Common.{◌≤◌, ℕ, List, [], length, drop}
use Rattle.druid_segment_rows.specs.Numbering.{HavePlaces}
use Rattle.druid_segment_rows.proofs.numbering.place.Given as goal

abbrev pub invariant-loop-entry : goal.invariant-loop-entry
invariant-loop-entry l = record {
  few : length l.values ≤ l.entry-index;
  places : (texts : List (List ℕ)) (codes : List ℕ) → HavePlaces texts codes l.entries [] l.initial.ranks → HavePlaces texts codes (drop l.entry-index l.entries) l.values l.ranks;
}
