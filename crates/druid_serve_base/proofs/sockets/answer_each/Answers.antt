use Rattle.std.proofs.Common.{[], ◌∷◌, ◌++◌, refl}
use Rattle.std.proofs.lemmas.Fn.{FoldsTo-push}
use Rattle.druid_serve_base.proofs.sockets.answer_each.Goals as goal

pub loop-stream-init : goal.loop-stream-init
loop-stream-init g c = ([], refl)

pub loop-stream-preserved-in-Ok : goal.loop-stream-preserved-in-Ok
loop-stream-preserved-in-Ok g c =
    let before = c.loop-stream.invariant in
    (before.0 ++ (c.in-Ok.stream ∷ []), FoldsTo-push _ _ before.0 _ c.in-Ok.stream _ before.1 c.answer-worker.ensures)
