-- Each input has a run in which no device fails.
use Rattle.std.proofs.Common.{ℕ, ◌+◌, List, [], ◌∷◌, ◌++◌, Option, inl, inr, refl}
use Rattle.druid_inventory.specs.Entry.{Entry}
use Rattle.druid_replay.specs.Answers.{line_text}
use Rattle.druid_replay.specs.declared.reason.BadLine.{BadLine}
use Rattle.druid_replay.specs.Runs.{End, done, bad_at, NoDeviceFails, Runs}
use Rattle.druid_replay.proofs.AnswerSome.{line_some}

all_done : NoDeviceFails done
all_done n e = cc

stops_at : (k : ℕ) (why : BadLine) → NoDeviceFails (bad_at k why)
stops_at k why n e = cc

pub runs_some : (state : Option (List (List Entry))) (n : ℕ) (lines : List (List ℕ)) → (out : List ℕ) × (end : End) × Runs state n lines out end × NoDeviceFails end
runs_some state n [] = ([], done, (refl, inl refl), all_done)
runs_some state n (line ∷ more) =
    elim (line_some state line) [
      | inl bad ↦ ([], bad_at n bad.0, inl (bad.0, bad.1, refl, refl), stops_at n bad.0)
      | inr given ↦
          let rest = runs_some given.1 (n + 1) more in
          (line_text given.0 ++ rest.0, rest.1, inr (inr (given.0, given.1, given.2, rest.0, refl, rest.2)), rest.3)
    ]
