use Rattle.std.proofs.Common.{nat_lt, drop}
use Rattle.druid_replay.specs.Answers.{line_text}
use Rattle.druid_replay.specs.declared.answer.CommandAnswer.TheVariants.{Found}
use Rattle.druid_replay.proofs.PieceLemmas.{rest_of}
use Rattle.druid_stream.proofs.WriteLemmas.{IsUnderWay}
use Rattle.druid_replay.proofs.answer_writer.write_pieces.Given as goal

abbrev pub invariant-loop-i : goal.invariant-loop-i
invariant-loop-i g l = IsUnderWay (line_text (Found l.pieces)) (rest_of (nat_lt 0 l.i) (drop l.i l.pieces)) (g.W.Write.contents l.fn.writer) (g.W.Write.contents l.writer)
