use Rattle.druid_partial_text.proofs.MissedLemmas.{AllAmong}
use Rattle.druid_partial_text.proofs.missing.were_asked.Given as goal

abbrev pub invariant-loop-piece : goal.invariant-loop-piece
invariant-loop-piece l = AllAmong l.asked l.missing l.piece-index
