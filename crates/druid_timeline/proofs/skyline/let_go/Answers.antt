use Rattle.std.proofs.Common.{◌≡◌, ℕ, inl, inr, List, take, sym, ap, ◌∙◌, subst, Bor}
use Rattle.std.specs.List.{Contains}
use Rattle.std.proofs.lemmas.List.{take-map}
use Rattle.druid_segment_id.specs.Group.{Group}
use Rattle.druid_timeline.specs.Skyline.{IsSkyline}
use Rattle.druid_timeline.proofs.SkylineLemmas.{borrowed, IsSkyline-take, of_take, parts_at}
use Rattle.druid_timeline.proofs.skyline.let_go.Goals as goal

-- what is left of the skyline
left : (old new at : List (Bor Group)) (place : ℕ) → at ≡ old → new ≡ take place old → borrowed new ≡ take place (borrowed at)
left old new at place same e = ap borrowed e ∙ sym (take-map (λ (b : Bor Group). b.now) place old) ∙ ap (λ xs. take place (borrowed xs)) (sym same)

pub returns-clause-order : goal.returns-clause-order
returns-clause-order c =
    let e = left c.args.sky.now.items c.truncate.new.self.items c.deref.result.now c.first_ended-place.result c.deref.ensures.value c.truncate.ensures.items in
    subst IsSkyline (sym e) (IsSkyline-take (borrowed c.deref.result.now) c.first_ended-place.result (subst (λ xs. IsSkyline (borrowed xs)) (sym c.deref.ensures.value) c.requires))

pub returns-clause-among : goal.returns-clause-among
returns-clause-among c g there =
    let e = left c.args.sky.now.items c.truncate.new.self.items c.deref.result.now c.first_ended-place.result c.deref.ensures.value c.truncate.ensures.items in
    subst (λ xs. Contains (borrowed xs) g) c.deref.ensures.value (of_take (borrowed c.deref.result.now) c.first_ended-place.result g (subst (λ xs. Contains xs g) e there))

pub returns-clause-later : goal.returns-clause-later
returns-clause-later c g there =
    let e = left c.args.sky.now.items c.truncate.new.self.items c.deref.result.now c.first_ended-place.result c.deref.ensures.value c.truncate.ensures.items in
    c.first_ended-place.ensures.before g (subst (λ xs. Contains xs g) e there)

pub returns-clause-gone : goal.returns-clause-gone
returns-clause-gone c g there =
    let e = left c.args.sky.now.items c.truncate.new.self.items c.deref.result.now c.first_ended-place.result c.deref.ensures.value c.truncate.ensures.items in
    elim (parts_at (borrowed c.deref.result.now) c.first_ended-place.result g (subst (λ xs. Contains (borrowed xs) g) (sym c.deref.ensures.value) there)) [
      | inl stays ↦ inl (subst (λ xs. Contains xs g) (sym e) stays)
      | inr ended ↦ inr (c.first_ended-place.ensures.rest g ended)
    ]
