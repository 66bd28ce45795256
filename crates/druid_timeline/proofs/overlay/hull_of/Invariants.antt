use Rattle.std.proofs.Common.{MatchOption}
use Rattle.druid_timeline.specs.Edited.{IsWithin}
use Rattle.druid_timeline.proofs.OverlayLemmas.{HullCovers}
use Rattle.druid_timeline.proofs.overlay.hull_of.Given as goal

abbrev pub invariant-loop-place : goal.invariant-loop-place
invariant-loop-place l = record {
  covers : HullCovers l.part l.runs l.own l.place l.hull;
  within : MatchOption l.hull (Unit {0}) (λ h. IsWithin h l.part);
}
