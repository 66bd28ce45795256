use Rattle.std.proofs.Common.{◌≡◌, ◌<◌, length, arith}
use Rattle.std.proofs.lemmas.Grind.{common_steps}
use Rattle.druid_stream.specs.Parts.{feed_of}
use Rattle.druid_stream.proofs.LineLemmas.{grown_plain, grown_taken, grown_length, finds_more_at, finds_long, finds_end_at, finds_feed_at, finds_last_at}
use Rattle.druid_stream.proofs.lines.next_line.Goals as goal

pub returns-then-len-limit-clause-found : goal.returns-then-len-limit-clause-found
returns-then-len-limit-clause-found g c =
    finds_long c.args.limit c.next_part.new.line.items (feed_of c.in_ok-part.part) _ _
    (grown_plain c.in_ok-part.part c.loop.line.items c.next_part.new.line.items _ _ _ c.loop.invariant.plain c.in_ok-part.ensures.part)
    (omega (arith, c.next_part.new.line.ok.0))
    (grown_taken c.in_ok-part.part c.loop.line.items c.next_part.new.line.items _ _ _ _ c.loop.invariant.taken c.in_ok-part.ensures.part)

pub returns-in-Ended-clause-found : goal.returns-in-Ended-clause-found
returns-in-Ended-clause-found g c =
    let some : 0 < length c.next_part.new.line.items = grind (arith, common_steps) in
    finds_last_at c.in_ok-part.part c.loop.line.items c.next_part.new.line.items _ _ _ _ c.in-Ended.is c.loop.invariant.plain c.loop.invariant.taken c.in_ok-part.ensures.part some

pub returns-in-Feed-clause-found : goal.returns-in-Feed-clause-found
returns-in-Feed-clause-found g c =
    finds_feed_at c.in_ok-part.part c.loop.line.items c.next_part.new.line.items _ _ _ _ c.in-Feed.is c.loop.invariant.plain c.loop.invariant.taken c.in_ok-part.ensures.part

pub returns-then-len-limit-clause-kept : goal.returns-then-len-limit-clause-kept
returns-then-len-limit-clause-kept g c = omega (arith, grown_length c.in_ok-part.part c.loop.line.items c.next_part.new.line.items _ _ _ c.in_ok-part.ensures.part)

pub returns-then-is_empty-clause-found : goal.returns-then-is_empty-clause-found
returns-then-is_empty-clause-found g c =
    let none : length c.next_part.new.line.items ≡ 0 = grind (arith, common_steps) in
    finds_end_at c.in_ok-part.part c.loop.line.items c.next_part.new.line.items _ _ _ _ c.in-Ended.is c.loop.invariant.taken c.in_ok-part.ensures.part none

pub loop-preserved : goal.loop-preserved
loop-preserved g c = record {
  short = omega arith;
  plain = grown_plain c.in_ok-part.part c.loop.line.items c.next_part.new.line.items _ _ _ c.loop.invariant.plain c.in_ok-part.ensures.part;
  taken = finds_more_at c.in_ok-part.part c.loop.line.items c.next_part.new.line.items _ _ _ _ c.in-More.is c.loop.invariant.taken c.in_ok-part.ensures.part;
}
