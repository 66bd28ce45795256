use Rattle.std.proofs.Common.{◌≡◌, ◌<◌, ap, ◌∙◌, arith, rules}
use Rattle.druid_timeline.proofs.SkylineLemmas.{borrowed, borrowed_at, borrowed_within, start_from, first_left}
use Rattle.druid_timeline.proofs.sweep.next_bound.Goals as goal

pub returns-then-place-sorted-clause-next : goal.returns-then-place-sorted-clause-next
returns-then-place-sorted-clause-next c g there =
    let start : c.start-next.result ≡ c.index-sorted-place.result.now.interval.start = c.start-next.ensures.value ∙ ap (λ e. e.start) c.interval-then-place-sorted.ensures.value in
    let low = c.earlier-to-then-place-sorted.ensures in
    let from = start_from (borrowed c.args.sorted.now) c.args.place c.index-sorted-place.result.now.interval.start c.index-sorted-place.result.now c.requires (borrowed_within c.args.sorted.now c.args.place c.if-place-sorted.true)
    (borrowed_at c.args.sorted.now c.args.place c.index-sorted-place.result c.if-place-sorted.true c.index-sorted-place.is) (omega arith) g there in
    omega (arith, start, low, from)

pub returns-then-place-sorted-clause-onward : goal.returns-then-place-sorted-clause-onward
returns-then-place-sorted-clause-onward c from below best later =
    let start : c.start-next.result ≡ c.index-sorted-place.result.now.interval.start = c.start-next.ensures.value ∙ ap (λ e. e.start) c.interval-then-place-sorted.ensures.value in
    let low = c.earlier-to-then-place-sorted.ensures in
    let next = later c.index-sorted-place.result.now
    (first_left (borrowed c.args.sorted.now) c.args.place c.index-sorted-place.result.now (borrowed_within c.args.sorted.now c.args.place c.if-place-sorted.true)
    (borrowed_at c.args.sorted.now c.args.place c.index-sorted-place.result c.if-place-sorted.true c.index-sorted-place.is)) in
    let to : from < c.match-best.to = search rules in
    omega (arith, start, low, next, to)
