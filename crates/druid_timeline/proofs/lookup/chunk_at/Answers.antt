use Rattle.std.proofs.Common.{sym, ◌∙◌}
use Rattle.std.proofs.lemmas.Bool.{false≢true}
use Rattle.druid_timeline.proofs.HalfLemmas.{at_place, shown_beyond, shown_nowhere}
use Rattle.druid_timeline.proofs.SpliceLemmas.{member-Shows}
use Rattle.druid_timeline.proofs.lookup.chunk_at.Goals as goal
use Rattle.druid_timeline.proofs.lookup.chunk_at.Goals.{then-place-runs+else-contains, else-place-runs}

pub returns-then-contains : goal.returns-then-contains
returns-then-contains c =
    member-Shows c.args.runs.now c.index-runs-place.result c.args.instant (c.first_beyond-place.result, c.if-place-runs.true, sym c.index-runs-place.is) (c.contains.ensures.0 c.if-contains.true)

pub returns : goal.returns
returns c g s = elim c.if-place-runs.branch [
  | then-place-runs+else-contains w ↦
      false≢true (sym w.if-contains.false ∙ w.contains.ensures.1
      (shown_beyond c.args.runs.now c.args.instant c.first_beyond-place.result w.index-runs-place.result c.requires w.if-place-runs.true w.index-runs-place.is c.first_beyond-place.ensures.before
      (c.first_beyond-place.ensures.rest w.index-runs-place.result (at_place c.args.runs.now c.first_beyond-place.result w.index-runs-place.result w.if-place-runs.true w.index-runs-place.is)) g s))
  | else-place-runs w ↦
      shown_nowhere c.args.runs.now c.args.instant c.first_beyond-place.result w.if-place-runs.false c.first_beyond-place.ensures.bound c.first_beyond-place.ensures.before g s
]
