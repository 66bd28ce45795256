use Rattle.std.proofs.Common.{◌≡◌, ◌<◌, ◌≤◌, ◌⊎◌, ◌↔◌, ℕ, length, take, drop, map, None, Result, Ok, Err, sym, ap, ◌∙◌, subst, arith, rules}
use Rattle.std.specs.List.{Contains}
use Rattle.std.specs.Result.{OnOk}
use Rattle.druid_time.specs.Extent.{Extent, Has, common}
use Rattle.druid_segment_id.specs.Group.{Group}
use Rattle.druid_timeline.specs.Edited.{IsOverlaid}
use Rattle.druid_timeline.specs.Pieces.{Shows, shown_at}
use Rattle.druid_timeline.specs.Stretches.{EndBy}
use Rattle.druid_timeline.proofs.HalfLemmas.{places_ordered}
use Rattle.druid_timeline.proofs.LookupLemmas.{cut_before}
use Rattle.druid_timeline.proofs.OverlayLemmas.{IsPassed-start, IsPassed-skip, IsPassed-next, swept_gap, swept_run, swept_last, count_skip, count_next}
use Rattle.druid_timeline.proofs.SweepLemmas.{Run, IsSwept-start, IsSwept-beyond, IsSwept-end}
use Rattle.druid_timeline.proofs.overlay.add_overlaid.Goals as goal
use Rattle.druid_timeline.proofs.overlay.add_overlaid.Goals.{in-Some+in_ok-push_between+in_ok-push_run, in_default}

both_ok : {T E : Type 0} (r : Result T E) (P Q R : Type 0) → OnOk r P → OnOk r Q → (P → Q → R) → OnOk r R
both_ok (Ok x) P Q R p q f = f p q
both_ok (Err e) P Q R p q f = tt

pub loop-place-init : goal.loop-place-init
loop-place-init c =
    let part = c.interval-part.result in
    let early = subst (λ (n : ℕ). (r : Run) → Contains (take c.first_to-low.result c.args.runs.now) r → r.0.end < n) c.start.ensures.value c.first_to-low.ensures.before in
    let same = ap length (cut_before part c.args.runs.now c.first_to-low.result c.start.ensures.valid.0 c.requires.runs (λ r there. let e = early r there in omega (arith, e))) in
    rw c.start-from.ensures.value (record {
      passed = IsPassed-start part c.args.runs.now c.first_to-low.result early;
      swept = IsSwept-start part (IsOverlaid (map shown_at c.args.runs.now) c.args.own.now) c.args.middle.now.items c.start.ensures.valid.0 c.requires.middle;
      low = omega arith;
      high = omega (arith, same);
    })

pub push_run-requires-clause-ends : goal.push_run-requires-clause-ends
push_run-requires-clause-ends c =
    let part = c.interval-part.result in
    let l : c.loop-place.place < length c.args.runs.now = let within = c.first_after-high.ensures.bound in omega (arith, c.loop-place-test.true, within) in
    let is = sym c.clip.ensures.value ∙ c.in-Some.is in
    let shows = subst (λ (n : ℕ). (t : ℕ) (g : Group) → Shows (map shown_at c.push_between.new.runs.items) t g ↔ (Shows (map shown_at c.loop-place.middle.items) t g ⊎ ((c.args.own.now ≡ g) × ((c.loop-place.from ≤ t) × (t < n))))) c.start-in-Some.ensures.value c.in_ok-push_between.ensures.shows in
    IsSwept-beyond part (IsOverlaid (map shown_at c.args.runs.now) c.args.own.now) c.args.middle.now.items c.push_between.new.runs.items c.in-Some.both.start
    (swept_gap part c.args.runs.now c.args.middle.now.items c.loop-place.middle.items c.push_between.new.runs.items c.args.own.now c.loop-place.place c.loop-place.from c.index-runs-place.result c.in-Some.both c.requires.runs l c.index-runs-place.is is c.loop-place.invariant.passed c.loop-place.invariant.swept c.in_ok-push_between.ensures.runs shows)
    (subst (λ (p : Extent). EndBy (map shown_at c.args.middle.now.items) p.start) (sym c.interval-part.ensures.value) c.requires.ends)

pub loop-place-preserved : goal.loop-place-preserved
loop-place-preserved c =
    let part = c.interval-part.result in
    let l : c.loop-place.place < length c.args.runs.now = let within = c.first_after-high.ensures.bound in omega (arith, c.loop-place-test.true, within) in
    let low = c.loop-place.invariant.low in
    let high = c.loop-place.invariant.high in
    elim c.match-clip.branch [
      | in-Some+in_ok-push_between+in_ok-push_run w ↦
          let is = sym c.clip.ensures.value ∙ w.in-Some.is in
          let shows = subst (λ (n : ℕ). (t : ℕ) (g : Group) → Shows (map shown_at w.push_between.new.runs.items) t g ↔ (Shows (map shown_at c.loop-place.middle.items) t g ⊎ ((c.args.own.now ≡ g) × ((c.loop-place.from ≤ t) × (t < n))))) w.start-in-Some.ensures.value w.in_ok-push_between.ensures.shows in
          let gap = swept_gap part c.args.runs.now c.args.middle.now.items c.loop-place.middle.items w.push_between.new.runs.items c.args.own.now c.loop-place.place c.loop-place.from c.index-runs-place.result w.in-Some.both c.requires.runs l c.index-runs-place.is is c.loop-place.invariant.passed c.loop-place.invariant.swept w.in_ok-push_between.ensures.runs shows in
          let count = count_next part c.args.runs.now c.loop-place.place c.index-runs-place.result w.in-Some.both l c.index-runs-place.is is in
          let one = w.better.ensures.counted in
          rw (w.middle-is, w.meter-is, w.from-is, w.end-from.ensures.value)
          (record {
            passed = IsPassed-next part c.args.runs.now c.loop-place.place c.loop-place.from c.index-runs-place.result w.in-Some.both c.requires.runs l c.index-runs-place.is is c.loop-place.invariant.passed;
            swept =
                swept_run part c.args.runs.now c.args.middle.now.items w.push_between.new.runs.items w.push_run.new.runs.items c.args.own.now w.better.result.now c.loop-place.place c.loop-place.from c.index-runs-place.result w.in-Some.both c.requires.runs l c.index-runs-place.is is c.loop-place.invariant.passed
                w.better.ensures.better gap w.in_ok-push_run.ensures.runs w.in_ok-push_run.ensures.shows;
            low = omega (arith, low, one);
            high = omega (arith, high, one, count);
          })
      | in_default w ↦
          let none : common part c.index-runs-place.result.0 ≡ None = search rules in
          let count = ap length (count_skip part c.args.runs.now c.loop-place.place c.index-runs-place.result l c.index-runs-place.is none) in
          rw (w.middle-is, w.meter-is, w.from-is)
          (record {
            passed = IsPassed-skip part c.args.runs.now c.loop-place.place c.loop-place.from c.index-runs-place.result l c.index-runs-place.is none c.loop-place.invariant.passed;
            swept = c.loop-place.invariant.swept;
            low = low;
            high = omega (arith, high, count);
          })
    ]

pub returns-clause-shows : goal.returns-clause-shows
returns-clause-shows c =
    let part = c.interval-part.result in
    let early = subst (λ (n : ℕ). (r : Run) → Contains (take c.first_to-low.result c.args.runs.now) r → r.0.end < n) c.start.ensures.value c.first_to-low.ensures.before in
    let late = subst (λ (n : ℕ). (r : Run) → Contains (drop c.first_after-high.result c.args.runs.now) r → n < r.0.start) c.end.ensures.value c.first_after-high.ensures.rest in
    let order = places_ordered c.args.runs.now c.first_to-low.result c.first_after-high.result part.start part.end c.start.ensures.valid.0 c.requires.runs c.first_to-low.ensures.bound early late in
    let reached = c.loop-place.auto.place-end order in
    let e : c.loop-place.place ≡ c.first_after-high.result = omega (arith, reached, c.loop-place-test.false) in
    let beyond = subst (λ (n : ℕ). (r : Run) → Contains (drop n c.args.runs.now) r → part.end < r.0.start) (sym e) late in
    both_ok c.push_between-2.result _ _ _ c.push_between-2.ensures.runs c.push_between-2.ensures.shows (λ runs shows t g.
    let to_end = subst (λ (n : ℕ). (t : ℕ) (g : Group) → Shows (map shown_at c.push_between-2.new.runs.items) t g ↔ (Shows (map shown_at c.loop-place.middle.items) t g ⊎ ((c.args.own.now ≡ g) × ((c.loop-place.from ≤ t) × (t < n))))) c.end-2.ensures.value shows in
    let swept = swept_last part c.args.runs.now c.args.middle.now.items c.loop-place.middle.items c.push_between-2.new.runs.items c.args.own.now c.loop-place.place c.loop-place.from beyond c.loop-place.invariant.passed c.loop-place.invariant.swept runs to_end in
    subst (λ (p : Extent). Shows (map shown_at c.push_between-2.new.runs.items) t g ↔ (Shows (map shown_at c.args.middle.now.items) t g ⊎ (Has p t × IsOverlaid (map shown_at c.args.runs.now) c.args.own.now t g))) c.interval-part.ensures.value
    (IsSwept-end part (IsOverlaid (map shown_at c.args.runs.now) c.args.own.now) c.args.middle.now.items c.push_between-2.new.runs.items part.end swept (omega arith) t g))
