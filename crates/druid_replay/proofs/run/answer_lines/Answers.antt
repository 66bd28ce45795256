use Rattle.std.proofs.Common.{ℕ, ◌+◌, List, subst, arith}
use Rattle.druid_replay.specs.Execution.{IsAnswered}
use Rattle.druid_replay.specs.Runs.{ReportsLine}
use Rattle.druid_replay.proofs.RunLemmas.{goes_on, reported_of, found_line}
use Rattle.druid_replay.proofs.run.answer_lines.Goals as goal

pub loop-count-preserved : goal.loop-count-preserved
loop-count-preserved g c =
    let reported = c.in-Ok.ensures.ok in
    goes_on _ _ _ _ _ _ c.loop-count.state c.in-Ok.next (c.loop-count.count + 1) c.next_line.new.line.items reported.0 c.loop-count.invariant (found_line c.in-Ok-Line.field-0 (g.R.Read.remaining c.loop-count.reader) (g.R.Read.remaining c.next_line.new.reader) c.next_line.new.line.items c.in-Ok-Line.field-0-is c.in-Ok-Line.ensures.found)
    (subst (λ (l : List ℕ). IsAnswered c.loop-count.state l reported.0 c.in-Ok.next) c.deref.ensures.value reported.1) reported.2

pub returns-in-Err-answer_to-clause-err : goal.returns-in-Err-answer_to-clause-err
returns-in-Err-answer_to-clause-err g c =
    reported_of c.in-Err-answer_to.stop.fault c.in-Err-answer_to.stop.reason _ _ _ _ _ _ c.loop-count.state (c.loop-count.count + 1) c.next_line.new.line.items c.loop-count.invariant (found_line c.in-Ok-Line.field-0 (g.R.Read.remaining c.loop-count.reader) (g.R.Read.remaining c.next_line.new.reader) c.next_line.new.line.items c.in-Ok-Line.field-0-is c.in-Ok-Line.ensures.found)
    (omega (arith, c.loop-count-test.true))
    (subst (λ (l : List ℕ). ReportsLine c.loop-count.state l (c.loop-count.count + 1) (g.W.Write.contents c.loop-count.writer) (g.W.Write.contents c.answer_to.new.writer) c.in-Err-answer_to.stop.fault c.in-Err-answer_to.stop.reason) c.deref.ensures.value c.in-Err-answer_to.ensures.err)
