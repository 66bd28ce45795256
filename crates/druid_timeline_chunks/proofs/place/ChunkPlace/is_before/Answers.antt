use Rattle.druid_time.specs.Instant.{instant_count}
use Rattle.druid_timeline_chunks.specs.Places.{place_below}
use Rattle.druid_timeline_chunks.proofs.PlaceLemmas.{test_at, before_by_class, before_by_start, before_by_end}
use Rattle.druid_timeline_chunks.proofs.place.ChunkPlace.is_before.Goals as goal

pub returns-then-self-other : goal.returns-then-self-other
returns-then-self-other c =
    let a = c.self.inside in
    let b = c.other.inside in
    test_at a.class b.class (place_below instant_count a.class a.start a.end) (place_below instant_count b.class b.start b.end) c.args.self.now c.args.other.now
    (before_by_class instant_count a.class a.start a.end b.class b.start b.end c.self.invariant.0 c.self.invariant.1 c.other.invariant.0 c.other.invariant.1 c.if-self-other.true)
    c.self.view_is c.other.view_is

pub returns-then-self-other-2 : goal.returns-then-self-other-2
returns-then-self-other-2 c =
    let a = c.self.inside in
    let b = c.other.inside in
    test_at a.start b.start (place_below instant_count a.class a.start a.end) (place_below instant_count b.class b.start b.end) c.args.self.now c.args.other.now
    (before_by_start instant_count a.class a.start a.end b.class b.start b.end c.self.invariant.0 c.self.invariant.1 c.other.invariant.0 c.other.invariant.1 c.if-self-other.false c.if-self-other-2.true)
    c.self.view_is c.other.view_is

pub returns : goal.returns
returns c =
    let a = c.self.inside in
    let b = c.other.inside in
    test_at a.end b.end (place_below instant_count a.class a.start a.end) (place_below instant_count b.class b.start b.end) c.args.self.now c.args.other.now
    (before_by_end instant_count a.class a.start a.end b.class b.start b.end c.if-self-other.false c.if-self-other-2.false)
    c.self.view_is c.other.view_is
