use Rattle.std.proofs.Common.{◌≡◌, ◌+◌, ◌++◌, ℕ, List, [], ◌∷◌, length, sym, ap, subst, ◌∙◌, arith}
use Rattle.std.specs.Prelude.{◌↔◌, Contains}
use Rattle.druid_segment_descriptor.specs.Described.{Described}
use Rattle.druid_inventory.proofs.LastLemmas.{each_within}
use Rattle.druid_inventory.proofs.MergeLemmas.{IsLoadedTo, LoadedTo, loaded_more, loaded_kept}
use Rattle.druid_inventory.proofs.merge.loads_of.Goals as goal
use Rattle.druid_inventory.proofs.merge.loads_of.Goals.{in-Load+in_ok-clone+in_ok-push, in_default}

pub bounds-changes-place : goal.bounds-changes-place
bounds-changes-place c = each_within c.args.changes.now c.args.last.now c.requires.0 c.loop-place.place-index c.requires.1 c.loop-place-test.true

pub loop-place-preserved : goal.loop-place-preserved
loop-place-preserved c segments l =
    let cs = c.args.changes.now in
    let last = c.args.last.now in
    let i = c.loop-place.place-index in
    let h = c.loop-place.invariant segments l in
    elim c.match-changes-place.branch [
      | in-Load+in_ok-clone+in_ok-push w ↦
          loaded_more cs last segments c.loop-place.loads.items c.match-changes-place.loads.items i c.index-changes-place.result w.in-Load.descriptor l h c.loop-place-test.true
          c.index-changes-place.is w.in-Load.is
          ((λ k. (w.loads-is k).items) ∙ w.in_ok-push.ensures.items ∙ ap (λ (d : Described). c.loop-place.loads.items ++ d ∷ []) w.in_ok-clone.ensures.cases)
      | in_default w ↦
          subst (λ (ds : List Described). LoadedTo cs last segments ds (i + 1)) (sym (λ k. (w.loads-is k).items))
          (loaded_kept cs last segments c.loop-place.loads.items i c.index-changes-place.result h c.index-changes-place.is (λ d e. w.in_default.not-Load d e))
    ]

pub returns-clause-all : goal.returns-clause-all
returns-clause-all c x =
    let h = c.loop-place.invariant c.requires.0 c.requires.1 in
    let all : c.loop-place.place-index ≡ length c.args.last.now = omega (arith, c.loop-place-test.false, c.loop-place.auto.place-index-end) in
    subst (λ (n : ℕ). Contains c.loop-place.loads.items x ↔ IsLoadedTo c.args.changes.now c.args.last.now n x) all (h.members x)
