use Rattle.std.proofs.Common.{List, ℕ}
use Rattle.std.specs.List.{FoldsTo}
use Rattle.druid_serve_front.proofs.jobs.answer_jobs.Given as goal

abbrev pub invariant-loop : goal.invariant-loop
invariant-loop g l =
    (taken : List (List ℕ)) × FoldsTo (λ before job after. goal.F-post g l.answer before job after) l.initial.worker taken l.worker
