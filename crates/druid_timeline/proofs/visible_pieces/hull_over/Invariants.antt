use Rattle.std.proofs.Common.{take}
use Rattle.druid_timeline.proofs.SkylineLemmas.{borrowed}
use Rattle.druid_timeline.proofs.WholeLemmas.{IsHullOver}
use Rattle.druid_timeline.proofs.visible_pieces.hull_over.Given as goal

abbrev pub invariant-loop-place : goal.invariant-loop-place
invariant-loop-place l = IsHullOver (take l.place (borrowed l.keys)) l.hull
