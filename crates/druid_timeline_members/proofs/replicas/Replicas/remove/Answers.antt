use Rattle.std.proofs.Common.{◌∙◌, ◌≡◌, ◌↔◌, ◌⊎◌, ◌<◌, sym, ap, refl, subst, map, ℕ, List, length, get_or}
use Rattle.std.specs.List.{Contains, zip, remove}
use Rattle.std.specs.List.Sorted.{IsStrictlyIncreasing}
use Rattle.std.proofs.lemmas.Bool.{false≢true}
use Rattle.std.proofs.lemmas.List.{length-map, get_or-map, get_or_default}
use Rattle.druid_base.proofs.MemberLemmas.{Contains-map_back}
use Rattle.druid_timeline_members.proofs.PairLemmas.{no_replica, map-zip, zip-remove, Contains-remove, Contains-taken}
use Rattle.druid_timeline_members.specs.Slots.{Statement, Replica}
use Rattle.druid_timeline_members.proofs.replicas.Replicas.remove.Goals as goal

pub returns-in_default-clause-held : goal.returns-in_default-clause-held
returns-in_default-clause-held c =
    let e = c.deref.ensures.value ∙ (sym (map-zip _ _ c.self.invariant.0) ∙ ap (map (λ (r : Replica). r.0)) c.self.view_is) in
    (λ f. absurd (false≢true f), λ there. absurd (c.in_default.ensures.absent (subst (λ (xs : List ℕ). Contains xs c.args.node) (sym e) there)))

pub returns-in_default-clause-removed : goal.returns-in_default-clause-removed
returns-in_default-clause-removed c x =
    let e = c.deref.ensures.value ∙ (sym (map-zip _ _ c.self.invariant.0) ∙ ap (map (λ (r : Replica). r.0)) c.self.view_is) in (
      λ there. (there, λ same. c.in_default.ensures.absent (subst (λ (xs : List ℕ). Contains xs c.args.node) (sym e) (subst (λ (k : ℕ). Contains (map (λ (r : Replica). r.0) c.args.self.now) k) same (Contains-map_back (λ (r : Replica). r.0) c.args.self.now x there)))),
      λ both. both.0,
    )

pub returns-clause-held : goal.returns-clause-held
returns-clause-held c =
    let e = c.deref.ensures.value ∙ (sym (map-zip _ _ c.self.invariant.0) ∙ ap (map (λ (r : Replica). r.0)) c.self.view_is) in
    (λ _. subst (λ (xs : List ℕ). Contains xs c.args.node) e c.in-Ok.ensures.found, λ _. refl)

pub returns-clause-removed : goal.returns-clause-removed
returns-clause-removed c x =
    let e = c.deref.ensures.value ∙ (sym (map-zip _ _ c.self.invariant.0) ∙ ap (map (λ (r : Replica). r.0)) c.self.view_is) in
    let both : zip c.remove.new.self.items c.remove-2.new.self.items ≡ remove (zip c.self.inside.nodes.items c.self.inside.stated.items) c.in-Ok.at =
    ap (λ (xs : List ℕ). zip xs c.remove-2.new.self.items) c.remove.ensures.items
    ∙ ap (λ (ys : List Statement). zip (remove c.self.inside.nodes.items c.in-Ok.at) ys) c.remove-2.ensures.items
    ∙ zip-remove c.self.inside.nodes.items c.self.inside.stated.items c.in-Ok.at c.self.invariant.0 in
    let new = both ∙ ap (λ (ps : List Replica). remove ps c.in-Ok.at) c.self.view_is in
    let firsts = sym (map-zip c.self.inside.nodes.items c.self.inside.stated.items c.self.invariant.0) ∙ ap (map (λ (r : Replica). r.0)) c.self.view_is in
    let place = subst (λ (xs : List ℕ). (c.in-Ok.at < length xs) × (get_or xs c.in-Ok.at 0 ≡ c.args.node)) e c.in-Ok.ensures.place in
    let up = subst IsStrictlyIncreasing firsts c.self.invariant.1 in
    subst (λ (ps : List Replica). Contains ps x ↔ (Contains c.args.self.now x × (x.0 ≡ c.args.node → ⊥))) (sym new)
    (Contains-remove c.args.self.now c.in-Ok.at c.args.node up (subst (λ (k : ℕ). c.in-Ok.at < k) (length-map c.args.self.now (λ (r : Replica). r.0)) place.0) place.1 x)

pub returns-clause-one : goal.returns-clause-one
returns-clause-one c _ =
    let e = c.deref.ensures.value ∙ (sym (map-zip _ _ c.self.invariant.0) ∙ ap (map (λ (r : Replica). r.0)) c.self.view_is) in
    let both : zip c.remove.new.self.items c.remove-2.new.self.items ≡ remove (zip c.self.inside.nodes.items c.self.inside.stated.items) c.in-Ok.at =
    ap (λ (xs : List ℕ). zip xs c.remove-2.new.self.items) c.remove.ensures.items
    ∙ ap (λ (ys : List Statement). zip (remove c.self.inside.nodes.items c.in-Ok.at) ys) c.remove-2.ensures.items
    ∙ zip-remove c.self.inside.nodes.items c.self.inside.stated.items c.in-Ok.at c.self.invariant.0 in
    let new = both ∙ ap (λ (ps : List Replica). remove ps c.in-Ok.at) c.self.view_is in
    let place = subst (λ (xs : List ℕ). (c.in-Ok.at < length xs) × (get_or xs c.in-Ok.at 0 ≡ c.args.node)) e c.in-Ok.ensures.place in
    let within = subst (λ (k : ℕ). c.in-Ok.at < k) (length-map c.args.self.now (λ (r : Replica). r.0)) place.0 in
    let out = get_or c.args.self.now c.in-Ok.at no_replica in
    let first : out.0 ≡ c.args.node = sym (get_or-map (λ (r : Replica). r.0) c.args.self.now c.in-Ok.at no_replica 0 within) ∙ place.1 in
    let same : out ≡ (c.args.node, out.1) = ap (λ (n : ℕ). (n, out.1)) first in (
      out.1,
      λ x.
          subst (λ (ps : List Replica). Contains c.args.self.now x ↔ ((x ≡ (c.args.node, out.1)) ⊎ Contains ps x)) (sym new)
          (subst (λ (z : Replica). Contains c.args.self.now x ↔ ((x ≡ z) ⊎ Contains (remove c.args.self.now c.in-Ok.at) x)) same
          (Contains-taken c.args.self.now c.in-Ok.at out within (get_or_default c.args.self.now c.in-Ok.at no_replica out within) x)),
    )
