use Rattle.std.proofs.Common.{◌⊎◌, ◌↔◌, ℕ, List, length, map, None, Some, ap, subst, arith, Bor}
use Rattle.druid_segment_id.specs.Group.{Group}
use Rattle.druid_time.specs.Extent.{Has}
use Rattle.druid_timeline.specs.Candidates.{IsBestOf}
use Rattle.druid_timeline.specs.Pieces.{Shows, shown_at}
use Rattle.druid_timeline.proofs.SkylineLemmas.{borrowed}
use Rattle.druid_timeline.proofs.WholeLemmas.{IsHullOver, pieces_none, pieces_whole}
use Rattle.druid_timeline.proofs.visible_pieces.runs_of.Goals as goal

pub returns-in_default-clause-pieces : goal.returns-in_default-clause-pieces
returns-in_default-clause-pieces c =
    pieces_none c.args.chunks.now (borrowed c.in_ok-sorted.sorted.items) (map shown_at c.new-runs.result.items) c.sorted_complete.ensures.chunks c.in_ok-sorted.ensures.all
    (subst (λ (xs : List (Bor Group)). IsHullOver (borrowed xs) None) c.deref.ensures.value c.in_default.ensures) (ap (map shown_at) c.new-runs.ensures.items)

pub returns-clause-pieces : goal.returns-clause-pieces
returns-clause-pieces c =
    let hull = subst (λ (xs : List (Bor Group)). IsHullOver (borrowed xs) (Some c.in-Some.part)) c.deref.ensures.value c.in-Some.ensures in
    let shows = subst (λ (xs : List (Bor Group)). (t : ℕ) (g : Group) → Shows (map shown_at c.add_best.new.runs.items) t g ↔ (Shows (map shown_at c.new-runs.result.items) t g ⊎ (Has c.in-Some.part t × IsBestOf (borrowed xs) t g))) c.deref-2.ensures.value c.in_ok-add_best.ensures.shows in
    pieces_whole c.args.chunks.now (borrowed c.in_ok-sorted.sorted.items) c.in-Some.part (map shown_at c.new-runs.result.items) (map shown_at c.add_best.new.runs.items) c.sorted_complete.ensures.chunks c.in_ok-sorted.ensures.all
    hull (ap (map shown_at) c.new-runs.ensures.items) c.in_ok-add_best.ensures.runs shows

pub returns-in_err-add_best-clause-bound : goal.returns-in_err-add_best-clause-bound
returns-in_err-add_best-clause-bound c complete has =
    let l = ap length c.deref-2.ensures.value in
    let few = c.in_ok-sorted.ensures.few complete has in
    let counted = c.add_best.ensures.counted.1 in
    omega (arith, l, few, counted)

pub returns-clause-bound : goal.returns-clause-bound
returns-clause-bound c complete has =
    let l = ap length c.deref-2.ensures.value in
    let few = c.in_ok-sorted.ensures.few complete has in
    let counted = c.add_best.ensures.counted.1 in
    omega (arith, l, few, counted)
