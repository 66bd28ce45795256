use Rattle.std.proofs.Common.{◌≡◌, ◌+◌, ◌<◌, ◌≤◌, ◌++◌, ℕ, List, None, map, take, drop, sym, ap, ◌∙◌, subst, rules}
use Rattle.std.specs.List.{Contains}
use Rattle.druid_timeline_chunks.specs.Chunks.{members_at}
use Rattle.druid_time.specs.Extent.{common}
use Rattle.druid_segment_id.specs.Group.{Group}
use Rattle.druid_timeline.specs.Pieces.{AreRuns, ArePartitions, Reported, shown_at, shown_of}
use Rattle.druid_timeline.proofs.HalfLemmas.{at_place}
use Rattle.druid_timeline.proofs.LookupLemmas.{cut_runs, cut_before, cut_past, piece_pushed, pieces_done, all_pushed, later_within}
use Rattle.druid_timeline.proofs.SpliceLemmas.{runs_drop}
use Rattle.druid_timeline.proofs.SweepLemmas.{Run, drop_next}
use Rattle.druid_timeline.proofs.lookup.add_pieces.Goals as goal

pub loop-place-init : goal.loop-place-init
loop-place-init c = record {
  known = c.requires.known;
  parts = c.requires.parts;
  shown =
      ap (λ xs. map shown_of c.args.pieces.now.items ++ xs)
      (cut_before c.args.part c.args.runs.now c.first_beyond-place.result c.start.ensures.valid.0 c.requires.runs
      (subst (λ (s : ℕ). (r : Run) → Contains (take c.first_beyond-place.result c.args.runs.now) r → r.0.end ≤ s) c.start.ensures.value c.first_beyond-place.ensures.before));
  beyond = subst (λ (s : ℕ). (r : Run) → Contains (drop c.first_beyond-place.result c.args.runs.now) r → s < r.0.end) c.start.ensures.value c.first_beyond-place.ensures.rest;
}

pub returns-in_default-clause-shown : goal.returns-in_default-clause-shown
returns-in_default-clause-shown c =
    let next = drop_next c.args.runs.now c.loop-place.place c.index-runs-place.result c.loop-place-test.true c.index-runs-place.is in
    let tail = subst (λ (rs : List Run). AreRuns (map shown_at rs)) next (runs_drop c.args.runs.now c.loop-place.place c.requires.runs) in
    let beyond = c.loop-place.invariant.beyond c.index-runs-place.result (at_place c.args.runs.now c.loop-place.place c.index-runs-place.result c.loop-place-test.true c.index-runs-place.is) in
    let none : common c.args.part c.index-runs-place.result.0 ≡ None = search rules in
    pieces_done c.loop-place.pieces.items (cut_runs c.args.part (drop c.loop-place.place c.args.runs.now)) _
    (ap (cut_runs c.args.part) next ∙ cut_past c.args.part c.index-runs-place.result (drop (c.loop-place.place + 1) c.args.runs.now) c.start.ensures.valid.0 beyond tail none) c.loop-place.invariant.shown

pub loop-place-preserved : goal.loop-place-preserved
loop-place-preserved c = record {
  known = c.in_ok-parts.ensures.known;
  parts =
      all_pushed c.loop-place.pieces.items c.push.new.self.items c.new.result (λ (p : Reported). ArePartitions (members_at c.args.chunks.now p.group) p.parts) c.in_ok-push.ensures.items c.loop-place.invariant.parts
      (subst (λ (p : Reported). ArePartitions (members_at c.args.chunks.now p.group) p.parts) (sym c.new.ensures)
      (subst (λ (g : Group). ArePartitions (members_at c.args.chunks.now g) c.in_ok-parts.parts) (sym c.in_ok-key.ensures.cases) c.in_ok-parts.ensures.parts));
  shown =
      piece_pushed c.loop-place.pieces.items c.push.new.self.items c.new.result c.args.part c.in-Some.both c.args.runs.now c.loop-place.place c.index-runs-place.result _ c.in_ok-push.ensures.items
      (ap shown_of c.new.ensures ∙ ap (λ (g : Group). record { interval = c.in-Some.both; group = g }) c.in_ok-key.ensures.cases) c.loop-place-test.true c.index-runs-place.is (sym c.clip.ensures.value ∙ c.in-Some.is) c.loop-place.invariant.shown;
  beyond = λ r there. c.loop-place.invariant.beyond r (later_within c.args.runs.now c.loop-place.place c.index-runs-place.result r c.loop-place-test.true c.index-runs-place.is there);
}
