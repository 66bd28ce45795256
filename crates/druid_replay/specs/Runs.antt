-- What a whole run writes.
use Rattle.std.specs.Prelude.{◌≡◌, ◌⊎◌, ℕ, ◌+◌, ◌-◌, ◌^◌, min, ◌<◌, List, [], ◌∷◌, ◌++◌, length, ⊤, Option, None, Result, Ok, Err, IfSome}
use Rattle.std.specs.Io.KnownBytes.{Appends, Keeps}
use Rattle.druid_inventory.specs.Entry.{Entry}
use Rattle.druid_replay.specs.Answers.{line_text}
use Rattle.druid_replay.specs.Execution.{IsAnswered, IsBadFor}
use Rattle.druid_replay.specs.Lines.{lines_of}
use Rattle.druid_replay.specs.declared.answer.CommandAnswer.{CommandAnswer}
use Rattle.druid_replay.specs.declared.reason.BadLine.{BadLine}
use Rattle.druid_replay.specs.declared.reason.Reason.{Reason}
use Rattle.druid_replay.specs.declared.reason.Reason.TheVariants.{Line as ForLine}
use Rattle.druid_replay.specs.declared.fault.ReplayFault.{ReplayFault}
use Rattle.druid_replay.specs.declared.fault.ReplayFault.TheVariants.{BadCommand, Device}

-- how a run ends: all lines are answered, the line of this number is bad for this reason, or a device failed there
pub data End : Type 0 where
  done : End
  bad_at : (number : ℕ) → (bad : BadLine) → End
  broken_at : (number : ℕ) → End

-- no device failed
abbrev pub NoDeviceFails : End → Type 0
NoDeviceFails end = (number : ℕ) → end ≡ broken_at number → ⊥

-- nothing, or a front of what the line is answered, which is not the whole
abbrev pub IsFront : Option (List (List Entry)) → List ℕ → List ℕ → Type 0
IsFront state line out =
    (out ≡ [])
    ⊎ ((answer : CommandAnswer) × (next : Option (List (List Entry))) × IsAnswered state line answer next
    × (back : List ℕ) × (line_text answer ≡ out ++ back) × (0 < length back))

-- from what stands, the lines from this number on are answered so, one after another, and the run ends so; a device
-- may fail at any line, and after the last
abbrev pub Runs : Option (List (List Entry)) → ℕ → List (List ℕ) → List ℕ → End → Type 0
Runs state number [] out end = (out ≡ []) × ((end ≡ done) ⊎ (end ≡ broken_at number))
Runs state number (line ∷ more) out end =
    ((bad : BadLine) × IsBadFor state line bad × (out ≡ []) × (end ≡ bad_at number bad))
    ⊎ (IsFront state line out × (end ≡ broken_at number))
    ⊎ ((answer : CommandAnswer) × (next : Option (List (List Entry))) × IsAnswered state line answer next
    × (rest : List ℕ) × (out ≡ line_text answer ++ rest) × Runs next (number + 1) more rest end)

-- where the input is known, the known bytes of the writer grow by what the run of its lines writes, which ends so
abbrev pub Writes : Option (List ℕ) → Option (List ℕ) → Option (List ℕ) → End → Type 0
Writes input old new end =
    IfSome input (λ xs. (out : List ℕ) × Runs None 1 (lines_of xs) out end × Appends old new out)

-- what a fault of a run tells; a number that does not fit its type is given as the greatest that does
abbrev pub EndsBy : Option (List ℕ) → Option (List ℕ) → Option (List ℕ) → ReplayFault → Type 0
EndsBy input old new (BadCommand number) = (bad : BadLine) × Writes input old new (bad_at number bad)
EndsBy input old new (Device number) =
    (line : ℕ) × (number ≡ min line (2 ^ 64 - 1)) × Writes input old new (broken_at line)

-- a replay of the input ends so, and the writer got what its run writes
abbrev pub Replays : Option (List ℕ) → Option (List ℕ) → Option (List ℕ) → Result ⊤ ReplayFault → Type 0
Replays input old new (Ok _) = Writes input old new done
Replays input old new (Err fault) = EndsBy input old new fault

-- the end with what ended the run: of a bad line, what is wrong with it
abbrev pub EndsFor : Option (List ℕ) → Option (List ℕ) → Option (List ℕ) → ReplayFault → Reason → Type 0
EndsFor input old new (BadCommand number) reason =
    (bad : BadLine) × (reason ≡ ForLine bad) × Writes input old new (bad_at number bad)
EndsFor input old new (Device number) reason = EndsBy input old new (Device number)

-- the same of one line
abbrev pub ReportsLine : Option (List (List Entry)) → List ℕ → ℕ → Option (List ℕ) → Option (List ℕ) → ReplayFault → Reason → Type 0
ReportsLine state line number old new (BadCommand reported) reason =
    (reported ≡ number) × (bad : BadLine) × (reason ≡ ForLine bad) × IsBadFor state line bad × Keeps old new
ReportsLine state line number old new (Device reported) reason =
    (reported ≡ number) × (out : List ℕ) × IsFront state line out × Appends old new out
