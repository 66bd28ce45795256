use Rattle.std.proofs.Common.{[], ◌∙◌, arith}
use Rattle.std.proofs.KnownBytes.{Consumes-trans}
use Rattle.druid_stream.proofs.PartLemmas.{resumed, still}
use Rattle.druid_stream.proofs.lines.next_part.Goals as goal

pub returns-then-len-before-clause-part : goal.returns-then-len-before-clause-part
returns-then-len-before-clause-part g c = resumed c.in_ok-part.part _ _ _ _ _ _ _ c.loop.invariant.same c.loop.invariant.none c.in_ok-part.ensures.part

pub returns-in-Feed-clause-part : goal.returns-in-Feed-clause-part
returns-in-Feed-clause-part g c = resumed c.in_ok-part.part _ _ _ _ _ _ _ c.loop.invariant.same c.loop.invariant.none c.in_ok-part.ensures.part

pub loop-preserved : goal.loop-preserved
loop-preserved g c =
    let none = still c.in_ok-part.part _ _ _ _ _ c.in-More.is (omega arith) c.in_ok-part.ensures.part in
    record { same = none.0 ∙ c.loop.invariant.same; none = Consumes-trans _ _ _ [] [] c.loop.invariant.none none.1 }
