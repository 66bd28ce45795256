use Rattle.std.proofs.Common.{◌≡◌, ◌++◌, map, take, drop}
use Rattle.druid_segment_rows.specs.Numbering.{code_by_rank}
use Rattle.druid_segment_rows.proofs.numbering.rank.Given as goal

abbrev pub invariant-loop-place : goal.invariant-loop-place
invariant-loop-place l = l.codes ≡ map (code_by_rank l.ranks) (take l.place l.initial.codes) ++ drop l.place l.initial.codes
