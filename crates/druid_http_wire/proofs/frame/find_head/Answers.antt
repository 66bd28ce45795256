use Rattle.std.proofs.Common.{sym, ap, ◌∙◌, arith, length}
use Rattle.std.proofs.lemmas.Bool.{false≢true}
use Rattle.druid_http_wire.proofs.FrameLemmas.{opening, long_at, end_at, found_at, more_at, blank_at, same_line, lines_take}
use Rattle.druid_http_wire.proofs.frame.find_head.Goals.{then-blank+else-start-gt0, else-blank}
use Rattle.druid_http_wire.proofs.frame.find_head.Goals as goal

pub loop-init : goal.loop-init
loop-init g c = opening c.clear.new.self.items _ c.clear.ensures.items

pub returns-in-More-clause-found : goal.returns-in-More-clause-found
returns-in-More-clause-found g c =
    long_at c.in_ok-part.part _ _ _ _ _ _ _ c.in-More.is c.loop.invariant c.in_ok-part.ensures.part (omega (arith, c.loop.invariant.short))

pub returns-in-Ended-clause-found : goal.returns-in-Ended-clause-found
returns-in-Ended-clause-found g c =
    end_at c.in_ok-part.part _ _ _ _ _ _ _ c.in-Ended.is c.loop.invariant c.in_ok-part.ensures.part (omega (arith, c.loop.invariant.short))

pub returns-then-start-gt0-clause-found : goal.returns-then-start-gt0-clause-found
returns-then-start-gt0-clause-found g c =
    found_at c.in_ok-part.part _ _ _ c.push.new.self.items _ _ _ _ c.in-Feed.is c.loop.invariant c.in_ok-part.ensures.part (omega (arith, c.loop.invariant.short)) (omega arith)
    (same_line _ _ _ _ (omega (arith, c.len-start.ensures, c.loop.head.ok.0)) c.deref.ensures.value (c.is_blank-blank.ensures.0 c.if-blank.true)) c.in_ok-push.ensures.items

pub loop-preserved : goal.loop-preserved
loop-preserved g c =
    elim c.if-blank.branch [
      | then-blank+else-start-gt0 w ↦ rw w.head-is
          (blank_at c.in_ok-part.part _ _ _ _ w.clear-then-blank.new.self.items _ _ _ _ c.in-Feed.is c.loop.invariant c.in_ok-part.ensures.part (omega (arith, c.loop.invariant.short))
          (omega arith) (same_line _ _ _ _ (omega (arith, c.len-start.ensures, c.loop.head.ok.0)) c.deref.ensures.value (c.is_blank-blank.ensures.0 w.if-blank.true)) w.clear-then-blank.ensures.items
          (omega (arith, ap length c.in_ok-push.ensures.items)))
      | else-blank w ↦ rw w.head-is (rw w.passed-is
          (more_at c.in_ok-part.part _ _ _ c.push.new.self.items _ _ _ _ c.in-Feed.is c.loop.invariant c.in_ok-part.ensures.part (omega (arith, c.loop.invariant.short))
          (λ blank. false≢true (sym w.if-blank.false ∙ c.is_blank-blank.ensures.1 (same_line _ _ _ _ (omega (arith, c.len-start.ensures, c.loop.head.ok.0)) (sym c.deref.ensures.value) blank))) c.in_ok-push.ensures.items))
    ]

pub returns-in_err-part-clause-taken : goal.returns-in_err-part-clause-taken
returns-in_err-part-clause-taken g c = lines_take _ _ _ _ _ _ c.loop.invariant c.read_line.ensures.taken (omega (arith, c.loop.invariant.short))

pub returns-in-More-clause-taken : goal.returns-in-More-clause-taken
returns-in-More-clause-taken g c = lines_take _ _ _ _ _ _ c.loop.invariant c.read_line.ensures.taken (omega (arith, c.loop.invariant.short))

pub returns-in-Ended-clause-taken : goal.returns-in-Ended-clause-taken
returns-in-Ended-clause-taken g c = lines_take _ _ _ _ _ _ c.loop.invariant c.read_line.ensures.taken (omega (arith, c.loop.invariant.short))

pub returns-in_err-push-clause-taken : goal.returns-in_err-push-clause-taken
returns-in_err-push-clause-taken g c = lines_take _ _ _ _ _ _ c.loop.invariant c.read_line.ensures.taken (omega (arith, c.loop.invariant.short))

pub returns-then-start-gt0-clause-taken : goal.returns-then-start-gt0-clause-taken
returns-then-start-gt0-clause-taken g c = lines_take _ _ _ _ _ _ c.loop.invariant c.read_line.ensures.taken (omega (arith, c.loop.invariant.short))
