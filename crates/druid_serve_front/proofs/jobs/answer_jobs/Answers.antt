use Rattle.std.proofs.Common.{[], ◌∷◌, ◌++◌, refl}
use Rattle.std.proofs.lemmas.Fn.{FoldsTo-push}
use Rattle.druid_serve_front.proofs.jobs.answer_jobs.Goals as goal

pub loop-init : goal.loop-init
loop-init g c = ([], refl)

pub loop-preserved : goal.loop-preserved
loop-preserved g c =
    let before = c.loop.invariant in
    (before.0 ++ (c.in-Some-take.job ∷ []), FoldsTo-push _ _ before.0 _ c.in-Some-take.job _ before.1 c.answer-worker.ensures)
