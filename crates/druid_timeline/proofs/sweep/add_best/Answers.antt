use Rattle.std.proofs.Common.{◌≡◌, ◌<◌, ◌≤◌, List, length, drop, MatchOption, ap, subst, arith, rules, Bor}
use Rattle.std.specs.Option.{option_copied}
use Rattle.druid_segment_id.specs.Group.{Group}
use Rattle.druid_timeline.specs.Candidates.{IsBestOf}
use Rattle.druid_timeline.proofs.SkylineLemmas.{borrowed, IsBestIn, IsSkylineOf-start, IsSkylineOf-later, best_onward, seen_between}
use Rattle.druid_timeline.proofs.SweepLemmas.{IsSwept-start, IsSwept-add, IsSwept-beyond, IsSwept-end}
use Rattle.druid_timeline.proofs.sweep.add_best.Goals as goal

pub loop-from-init : goal.loop-from-init
loop-from-init c =
    rw c.start-from.ensures.value (record {
      swept = IsSwept-start c.args.part (IsBestOf (borrowed c.args.sorted.now)) c.args.runs.now.items c.start-from.ensures.valid.0 c.requires.runs;
      split = IsSkylineOf-start (borrowed c.args.sorted.now) (borrowed c.new-sky.result.items) c.args.part.start (ap borrowed c.new-sky.ensures.items);
      inside = omega arith;
      low = omega arith;
      high = let none = ap length c.new-sky.ensures.items in omega (arith, none);
    })

pub advance-requires-clause-split : goal.advance-requires-clause-split
advance-requires-clause-split c = c.loop-from.invariant.split

pub returns-in_err-place-clause-counted : goal.returns-in_err-place-clause-counted
returns-in_err-place-clause-counted c =
    let low = c.loop-from.invariant.low in
    let high = c.loop-from.invariant.high in
    let counted = c.advance.ensures.counted in
    (omega (arith, low, counted.0), omega (arith, counted.1, high))

pub push_best-requires-clause-runs : goal.push_best-requires-clause-runs
push_best-requires-clause-runs c = c.loop-from.invariant.swept.runs

pub push_best-requires-clause-ends : goal.push_best-requires-clause-ends
push_best-requires-clause-ends c =
    IsSwept-beyond c.args.part (IsBestOf (borrowed c.args.sorted.now)) c.args.runs.now.items c.loop-from.runs.items c.loop-from.from c.loop-from.invariant.swept c.requires.ends

pub returns-in_err-push_best-clause-counted : goal.returns-in_err-push_best-clause-counted
returns-in_err-push_best-clause-counted c =
    let low = c.loop-from.invariant.low in
    let high = c.loop-from.invariant.high in
    let counted = c.advance.ensures.counted in
    (omega (arith, low, counted.0), omega (arith, counted.1, high))

pub loop-from-smaller : goal.loop-from-smaller
loop-from-smaller c =
    let more : c.loop-from.from < c.end-stop.result = search rules in
    let best = subst (λ (xs : List (Bor Group)). IsBestIn (borrowed xs) (option_copied c.best_of-best.result)) c.deref.ensures.value c.best_of-best.ensures in
    let onward = c.next_bound-to.ensures.onward c.loop-from.from more (best_onward (borrowed c.advance.new.sky.items) (option_copied c.best_of-best.result) c.loop-from.from best c.in_ok-place.ensures.onward) c.in_ok-place.ensures.later in
    let high = c.next_bound-to.ensures.high in
    omega (arith, more, onward, high)

pub loop-from-preserved : goal.loop-from-preserved
loop-from-preserved c =
    let more : c.loop-from.from < c.end-stop.result = search rules in
    let best = subst (λ (xs : List (Bor Group)). IsBestIn (borrowed xs) (option_copied c.best_of-best.result)) c.deref.ensures.value c.best_of-best.ensures in
    let onward = c.next_bound-to.ensures.onward c.loop-from.from more (best_onward (borrowed c.advance.new.sky.items) (option_copied c.best_of-best.result) c.loop-from.from best c.in_ok-place.ensures.onward) c.in_ok-place.ensures.later in
    let high = c.next_bound-to.ensures.high in
    let stop = c.end-stop.ensures.value in
    let low = c.loop-from.invariant.low in
    let bound = c.loop-from.invariant.high in
    let paid = c.in_ok-place.ensures.paid in
    let counted = c.advance.ensures.counted in
    record {
      swept =
          IsSwept-add c.args.part (IsBestOf (borrowed c.args.sorted.now)) c.args.runs.now.items c.loop-from.runs.items c.push_best.new.runs.items c.loop-from.from c.next_bound-to.result (λ g. MatchOption (option_copied c.best_of-best.result) ⊥ (λ b. b ≡ g)) c.loop-from.invariant.swept (omega (arith, onward)) (omega (arith, high, stop))
          c.in_ok-push_best.ensures.runs
          (seen_between (borrowed c.args.sorted.now) (drop c.in_ok-place.place (borrowed c.args.sorted.now)) (borrowed c.advance.new.sky.items) (option_copied c.best_of-best.result) c.loop-from.from c.next_bound-to.result c.in_ok-place.ensures.split c.next_bound-to.ensures.next best c.next_bound-to.ensures.best)
          c.in_ok-push_best.ensures.shows;
      split = IsSkylineOf-later (borrowed c.args.sorted.now) (drop c.in_ok-place.place (borrowed c.args.sorted.now)) (borrowed c.advance.new.sky.items) c.loop-from.from c.next_bound-to.result c.in_ok-place.ensures.split (omega (arith, onward));
      inside = c.in_ok-place.ensures.within;
      low = omega (arith, low, counted.0);
      high = omega (arith, paid, bound);
    }

pub returns-clause-runs : goal.returns-clause-runs
returns-clause-runs c = c.loop-from.invariant.swept.runs

pub returns-clause-shows : goal.returns-clause-shows
returns-clause-shows c =
    let past : c.end-stop.result ≤ c.loop-from.from = search rules in
    let stop = c.end-stop.ensures.value in
    IsSwept-end c.args.part (IsBestOf (borrowed c.args.sorted.now)) c.args.runs.now.items c.loop-from.runs.items c.loop-from.from c.loop-from.invariant.swept (omega (arith, past, stop))

pub returns-clause-counted : goal.returns-clause-counted
returns-clause-counted c =
    let high = c.loop-from.invariant.high in
    (c.loop-from.invariant.low, omega (arith, high))
