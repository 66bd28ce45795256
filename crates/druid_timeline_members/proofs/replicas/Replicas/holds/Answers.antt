use Rattle.std.proofs.Common.{◌∙◌, ℕ, List, map, sym, ap, refl, subst}
use Rattle.std.specs.List.{Contains}
use Rattle.std.proofs.lemmas.Bool.{false≢true}
use Rattle.druid_timeline_members.specs.Slots.{Replica}
use Rattle.druid_timeline_members.proofs.PairLemmas.{map-zip}
use Rattle.druid_timeline_members.proofs.replicas.Replicas.holds.Goals as goal

pub returns-in-Ok : goal.returns-in-Ok
returns-in-Ok c =
    let e = c.deref.ensures.value ∙ (sym (map-zip _ _ c.self.invariant.0) ∙ ap (map (λ (r : Replica). r.0)) c.self.view_is) in
    (λ _. subst (λ (xs : List ℕ). Contains xs c.args.node) e c.in-Ok.ensures.found, λ _. refl)

pub returns-in-Err : goal.returns-in-Err
returns-in-Err c =
    let e = c.deref.ensures.value ∙ (sym (map-zip _ _ c.self.invariant.0) ∙ ap (map (λ (r : Replica). r.0)) c.self.view_is) in
    (λ f. absurd (false≢true f), λ there. absurd (c.in-Err.ensures.absent (subst (λ (xs : List ℕ). Contains xs c.args.node) (sym e) there)))
