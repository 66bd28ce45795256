use Rattle.std.proofs.Common.{◌≡◌, [], replicate}
use Rattle.left_right.specs.Sides.{view}
use Rattle.druid_inventory_views.specs.Places.{known}
use Rattle.druid_inventory_views.specs.declared.rule.Known.{Known}
use Rattle.druid_inventory_views.specs.declared.shown.Shown.{Shown}
use Rattle.druid_inventory_views.proofs.start.views_of.Given as goal

abbrev pub invariant-loop-place : goal.invariant-loop-place
invariant-loop-place g l =
    (view {T = Shown} {V = Known} l.writer.desk.place ≡ known g.J.Publication.book g.J.Publication.opening)
    × (l.writer.desk.shown.value.seen.log ≡ []) × (l.views.items ≡ replicate l._place l.seen)
