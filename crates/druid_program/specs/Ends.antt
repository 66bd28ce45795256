-- What ends of `replay` and of `serve` report, and the statuses that they give.
use Rattle.std.specs.Prelude.{ℕ, List, [], ◌∷◌, ◌++◌, codes, ⊤, Result, Ok, Err}
use Rattle.druid_replay.specs.Faults.{fault_text as replay_text}
use Rattle.druid_replay.specs.declared.fault.ReplayFault.{ReplayFault}
use Rattle.druid_serve_base.specs.Ends.{fault_text as serve_text}
use Rattle.druid_serve_base.specs.declared.serve_fault.ServeFault.{ServeFault}
use Rattle.druid_program.specs.Exits.{status_of, exit_of_replay, exit_of_serve}

abbrev pub usage_line : List ℕ
usage_line = codes "usage: druid_cluster replay | druid_cluster serve CONFIG\n"

-- the exit status of such an end of a replay
abbrev pub replay_status : Result ⊤ ReplayFault → ℕ
replay_status (Ok done) = 0
replay_status (Err fault) = status_of (exit_of_replay fault)

-- what it reports: the line of its fault, if it has one
abbrev pub replay_line : Result ⊤ ReplayFault → List ℕ
replay_line (Ok done) = []
replay_line (Err fault) = replay_text fault ++ 10 ∷ []

-- the same of a cluster that is served
abbrev pub serve_status : Result ⊤ ServeFault → ℕ
serve_status (Ok done) = 0
serve_status (Err fault) = status_of (exit_of_serve fault)

abbrev pub serve_line : Result ⊤ ServeFault → List ℕ
serve_line (Ok done) = []
serve_line (Err fault) = serve_text fault ++ 10 ∷ []
