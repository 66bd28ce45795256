use Rattle.std.proofs.Common.{◌<◌, ◌≤◌, ◌⊎◌, ◌↔◌, ℕ, map, take, drop, subst}
use Rattle.std.specs.List.{Contains}
use Rattle.druid_segment_id.specs.Group.{Group}
use Rattle.druid_timeline.specs.Candidates.{IsBestOf}
use Rattle.druid_timeline.specs.Pieces.{Shows, shown_at}
use Rattle.druid_timeline.proofs.SkylineLemmas.{borrowed}
use Rattle.druid_timeline.proofs.HalfLemmas.{places_ordered}
use Rattle.druid_timeline.proofs.SpliceLemmas.{AreRunsEdited-spliced, middle_made}
use Rattle.druid_timeline.proofs.SweepLemmas.{Run}
use Rattle.druid_timeline.proofs.edit.edit_swept.Goals as goal

pub returns-clause-inside : goal.returns-clause-inside
returns-clause-inside c =
    let early = subst (λ (s : ℕ). (r : Run) → Contains (take c.first_to-from.result c.args.runs.now) r → r.0.end < s) c.start.ensures.value c.first_to-from.ensures.before in
    let late = subst (λ (s : ℕ). (r : Run) → Contains (drop c.first_after-to.result c.args.runs.now) r → s < r.0.start) c.end.ensures.value c.first_after-to.ensures.rest in
    (places_ordered c.args.runs.now c.first_to-from.result c.first_after-to.result c.args.part.start c.args.part.end c.start.ensures.valid.0 c.requires.runs c.first_to-from.ensures.bound early late, c.first_after-to.ensures.bound)

pub returns-clause-edited : goal.returns-clause-edited
returns-clause-edited c =
    let early = subst (λ (s : ℕ). (r : Run) → Contains (take c.first_to-from.result c.args.runs.now) r → r.0.end < s) c.start.ensures.value c.first_to-from.ensures.before in
    let late = subst (λ (s : ℕ). (r : Run) → Contains (drop c.first_after-to.result c.args.runs.now) r → s < r.0.start) c.end.ensures.value c.first_after-to.ensures.rest in
    let first = subst (λ (s : ℕ). (t : ℕ) (g : Group) → Shows (map shown_at c.in_ok-middle.middle.items) t g ↔ (Shows (map shown_at (drop c.first_to-from.result c.args.runs.now)) t g × (t < s))) c.start-2.ensures.value c.in_ok-middle.ensures.shows in
    let third = subst (λ (s : ℕ). (t : ℕ) (g : Group) → Shows (map shown_at c.add_back.new.middle.items) t g ↔ (Shows (map shown_at c.add_best.new.runs.items) t g ⊎ (Shows (map shown_at (take c.first_after-to.result c.args.runs.now)) t g × (s ≤ t)))) c.end-2.ensures.value c.in_ok-add_back.ensures.shows in
    AreRunsEdited-spliced c.args.part (IsBestOf (borrowed c.args.sorted.now)) c.args.runs.now c.add_back.new.middle.items c.first_to-from.result c.first_after-to.result c.start.ensures.valid.0 c.requires.runs c.in_ok-add_back.ensures.runs early late
    (middle_made c.args.part (IsBestOf (borrowed c.args.sorted.now)) (map shown_at (drop c.first_to-from.result c.args.runs.now)) (map shown_at (take c.first_after-to.result c.args.runs.now)) (map shown_at c.in_ok-middle.middle.items) (map shown_at c.add_best.new.runs.items) (map shown_at c.add_back.new.middle.items)
    first c.in_ok-add_best.ensures.shows third)
