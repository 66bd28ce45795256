use Rattle.std.proofs.Common.{arith}
use Rattle.druid_stream.proofs.TakenLemmas.{takes_front, takes_kept}
use Rattle.druid_http_wire.proofs.LineLemmas.{not_grown, grown_long, line_full, part_long, more_at, feed_at, full_at, end_at, part_takes}
use Rattle.druid_http_wire.proofs.frame.read_line.Goals as goal

pub loop-init : goal.loop-init
loop-init g c = not_grown _ _ _

pub overflow_sub-taken : goal.overflow_sub-taken
overflow_sub-taken g c = omega (arith, grown_long _ _ _ _ _ c.loop.invariant)

pub overflow_sub-len : goal.overflow_sub-len
overflow_sub-len g c = omega (arith, part_long c.in_ok-part.part _ _ _ _ _ _ _ _ c.loop.invariant c.in_ok-part.ensures.part)

pub returns-then-room-taken-clause-part : goal.returns-then-room-taken-clause-part
returns-then-room-taken-clause-part g c = line_full _ _ _ _ _ c.loop.invariant (omega arith)

pub returns-then-room-taken-clause-taken : goal.returns-then-room-taken-clause-taken
returns-then-room-taken-clause-taken g c = takes_front _ _ _ _ c.loop.invariant.taken (omega (arith, c.loop.invariant.within))

pub returns-in_err-part-clause-taken : goal.returns-in_err-part-clause-taken
returns-in_err-part-clause-taken g c = takes_kept _ _ _ _ _ c.loop.invariant.taken (omega (arith, c.loop.invariant.within)) c.in_err-part.ensures.err

pub returns-clause-taken : goal.returns-clause-taken
returns-clause-taken g c = takes_front _ _ _ _ c.loop.invariant.taken (omega (arith, c.loop.invariant.within))

pub returns-then-room-len-clause-part : goal.returns-then-room-len-clause-part
returns-then-room-len-clause-part g c =
    full_at c.in_ok-part.part _ _ _ _ _ _ _ _ c.in-Feed.is c.loop.invariant c.in_ok-part.ensures.part
    (omega (arith, part_long c.in_ok-part.part _ _ _ _ _ _ _ _ c.loop.invariant c.in_ok-part.ensures.part))

pub returns-in-Feed-clause-part : goal.returns-in-Feed-clause-part
returns-in-Feed-clause-part g c =
    feed_at c.in_ok-part.part _ _ _ _ _ _ _ _ c.in-Feed.is c.loop.invariant c.in_ok-part.ensures.part (omega arith)

pub returns-in-Ended-clause-part : goal.returns-in-Ended-clause-part
returns-in-Ended-clause-part g c = end_at c.in_ok-part.part _ _ _ _ _ _ _ _ c.in-Ended.is c.loop.invariant c.in_ok-part.ensures.part (omega arith)

pub loop-preserved : goal.loop-preserved
loop-preserved g c = more_at c.in_ok-part.part _ _ _ _ _ _ _ _ c.in-More.is c.loop.invariant c.in_ok-part.ensures.part (omega arith)

pub returns-then-room-len-clause-taken : goal.returns-then-room-len-clause-taken
returns-then-room-len-clause-taken g c = part_takes _ _ _ _ _ _ _ _ _ c.loop.invariant c.in_ok-part.ensures.part (omega arith)

pub returns-in-Feed-clause-taken : goal.returns-in-Feed-clause-taken
returns-in-Feed-clause-taken g c = part_takes _ _ _ _ _ _ _ _ _ c.loop.invariant c.in_ok-part.ensures.part (omega arith)

pub returns-in-Ended-clause-taken : goal.returns-in-Ended-clause-taken
returns-in-Ended-clause-taken g c = part_takes _ _ _ _ _ _ _ _ _ c.loop.invariant c.in_ok-part.ensures.part (omega arith)
