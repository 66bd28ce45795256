use Rattle.std.proofs.Common.{[], ◌∙◌, arith}
use Rattle.std.proofs.KnownBytes.{Consumes-trans}
use Rattle.druid_http_wire.proofs.BodyLemmas.{nothing_taken, taken_again}
use Rattle.druid_http_wire.proofs.body.next_bytes.Goals as goal

pub returns-then-not-more-clause-more : goal.returns-then-not-more-clause-more
returns-then-not-more-clause-more g c = taken_again _ _ _ _ _ _ _ _ _ c.if-not-more.true c.loop.invariant.same c.loop.invariant.none c.in_ok-more.ensures.more

pub returns-then-len-before-clause-more : goal.returns-then-len-before-clause-more
returns-then-len-before-clause-more g c = taken_again _ _ _ _ _ _ _ _ _ c.if-not-more.false c.loop.invariant.same c.loop.invariant.none c.in_ok-more.ensures.more

pub loop-preserved : goal.loop-preserved
loop-preserved g c =
    let none = nothing_taken _ _ _ _ _ _ c.if-not-more.false (omega arith) c.in_ok-more.ensures.more in
    record { same = none.0 ∙ c.loop.invariant.same; none = Consumes-trans _ _ _ [] [] c.loop.invariant.none none.1 }
