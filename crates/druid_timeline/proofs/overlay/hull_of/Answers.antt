use Rattle.std.proofs.Common.{◌≡◌, ◌<◌, ℕ, length, take, drop, None, sym, ◌∙◌, subst, arith, rules}
use Rattle.std.specs.List.{Contains}
use Rattle.druid_time.specs.Extent.{Extent, Has, common}
use Rattle.druid_timeline.proofs.HalfLemmas.{places_ordered}
use Rattle.druid_timeline.proofs.OverlayLemmas.{HullCovers-next, HullCovers-skip, HullCovers-end, common_none, both_inside}
use Rattle.druid_timeline.proofs.SweepLemmas.{Run}
use Rattle.druid_timeline.proofs.overlay.hull_of.Goals as goal
use Rattle.druid_timeline.proofs.overlay.hull_of.Goals.{in-Some+then-eq, in-Some+else-eq, in_default}

pub loop-place-preserved : goal.loop-place-preserved
loop-place-preserved c =
    let l : c.loop-place.place < length c.args.runs.now = let within = c.first_after-high.ensures.bound in omega (arith, c.loop-place-test.true, within) in
    let at = c.index-runs-place.is in
    elim c.match-clip.branch [
      | in-Some+then-eq w ↦
          let is = sym c.clip.ensures.value ∙ w.in-Some.is in
          rw w.hull-is (record {
            covers = HullCovers-next c.interval-part.result c.args.runs.now c.args.own.now c.loop-place.place c.index-runs-place.result w.in-Some.both c.loop-place.hull w.widened-hull.result l at is w.widened-hull.ensures.covers c.loop-place.invariant.covers;
            within = w.widened-hull.ensures.within c.interval-part.result c.loop-place.invariant.within (both_inside c.interval-part.result c.index-runs-place.result w.in-Some.both is);
          })
      | in-Some+else-eq w ↦
          let other : (c.index-runs-place.result.1 ≡ c.args.own.now → ⊥) = search rules in
          rw w.hull-is (record {
            covers = HullCovers-skip c.interval-part.result c.args.runs.now c.args.own.now c.loop-place.place c.index-runs-place.result c.loop-place.hull l at (λ t mine in_part in_run. other mine) c.loop-place.invariant.covers;
            within = c.loop-place.invariant.within;
          })
      | in_default w ↦
          let none : common c.interval-part.result c.index-runs-place.result.0 ≡ None = search rules in
          rw w.hull-is (record {
            covers =
                HullCovers-skip c.interval-part.result c.args.runs.now c.args.own.now c.loop-place.place c.index-runs-place.result c.loop-place.hull l at
                (λ t mine in_part in_run. common_none c.interval-part.result c.index-runs-place.result.0 none t in_part in_run) c.loop-place.invariant.covers;
            within = c.loop-place.invariant.within;
          })
    ]

pub returns-clause-covers : goal.returns-clause-covers
returns-clause-covers c t has s =
    let part = c.interval-part.result in
    let early = subst (λ (n : ℕ). (r : Run) → Contains (take c.first_to-low.result c.args.runs.now) r → r.0.end < n) c.start.ensures.value c.first_to-low.ensures.before in
    let late = subst (λ (n : ℕ). (r : Run) → Contains (drop c.first_after-high.result c.args.runs.now) r → n < r.0.start) c.end.ensures.value c.first_after-high.ensures.rest in
    let order = places_ordered c.args.runs.now c.first_to-low.result c.first_after-high.result part.start part.end c.start.ensures.valid.0 c.requires c.first_to-low.ensures.bound early late in
    let reached = c.loop-place.auto.place-end order in
    let e : c.loop-place.place ≡ c.first_after-high.result = omega (arith, reached, c.loop-place-test.false) in
    HullCovers-end part c.args.runs.now c.args.own.now c.loop-place.place c.loop-place.hull (subst (λ (n : ℕ). (r : Run) → Contains (drop n c.args.runs.now) r → part.end < r.0.start) (sym e) late) c.loop-place.invariant.covers t
    (subst (λ (p : Extent). Has p t) (sym c.interval-part.ensures.value) has) s
