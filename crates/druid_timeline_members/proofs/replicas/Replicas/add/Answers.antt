use Rattle.std.proofs.Common.{◌∙◌, ◌↔◌, ◌⊎◌, ◌≡◌, ◌≤◌, sym, ap, refl, subst, map, ℕ, List, length}
use Rattle.std.specs.List.{Contains, zip, insert, remove}
use Rattle.std.specs.List.Sorted.{IsStrictlyIncreasing}
use Rattle.std.proofs.lemmas.Bool.{false≢true}
use Rattle.druid_base.proofs.MemberLemmas.{Contains-insert}
use Rattle.druid_timeline_members.proofs.PairLemmas.{map-zip, zip-insert, remove-insert}
use Rattle.druid_timeline_members.specs.Slots.{Statement, Replica}
use Rattle.druid_timeline_members.proofs.replicas.Replicas.add.Goals as goal

pub returns-in_default-clause-held : goal.returns-in_default-clause-held
returns-in_default-clause-held c =
    let e = c.deref.ensures.value ∙ (sym (map-zip _ _ c.self.invariant.0) ∙ ap (map (λ (r : Replica). r.0)) c.self.view_is) in
    (λ h. absurd (false≢true h), λ no. absurd (no (subst (λ (xs : List ℕ). Contains xs c.args.node) e c.in_default.ensures.found)))

pub invariant_of-self-in_default-insert : goal.invariant_of-self-in_default-insert
invariant_of-self-in_default-insert c =
    let within : c.in-Err.at ≤ length c.self.inside.nodes.items = subst (λ (xs : List ℕ). c.in-Err.at ≤ length xs) c.deref.ensures.value c.in-Err.ensures.within in
    let back = c.remove.ensures.items ∙ ap (λ (xs : List ℕ). remove xs c.in-Err.at) c.in_ok-insert.ensures.items ∙ remove-insert c.self.inside.nodes.items c.in-Err.at c.args.node within in
    let same = c.in_default-insert.ensures.items in
    (ap length back ∙ c.self.invariant.0 ∙ sym (ap length same), subst IsStrictlyIncreasing (sym back) c.self.invariant.1)

pub returns-clause-held : goal.returns-clause-held
returns-clause-held c =
    let e = c.deref.ensures.value ∙ (sym (map-zip _ _ c.self.invariant.0) ∙ ap (map (λ (r : Replica). r.0)) c.self.view_is) in
    (λ _ there. c.in-Err.ensures.absent (subst (λ (xs : List ℕ). Contains xs c.args.node) (sym e) there), λ _. refl)

pub returns-clause-added : goal.returns-clause-added
returns-clause-added c _ x =
    let within : c.in-Err.at ≤ length c.self.inside.nodes.items = subst (λ (xs : List ℕ). c.in-Err.at ≤ length xs) c.deref.ensures.value c.in-Err.ensures.within in
    let both : zip c.insert.new.self.items c.insert-2.new.self.items ≡ insert (zip c.self.inside.nodes.items c.self.inside.stated.items) c.in-Err.at (c.args.node, c.args.stated) =
    ap (λ (xs : List ℕ). zip xs c.insert-2.new.self.items) c.in_ok-insert.ensures.items
    ∙ ap (λ (ys : List Statement). zip (insert c.self.inside.nodes.items c.in-Err.at c.args.node) ys) c.in-Ok.ensures.items
    ∙ zip-insert c.self.inside.nodes.items c.self.inside.stated.items c.in-Err.at c.args.node c.args.stated c.self.invariant.0 within in
    let new = both ∙ ap (λ (ps : List Replica). insert ps c.in-Err.at (c.args.node, c.args.stated)) c.self.view_is in
    subst (λ (ps : List Replica). Contains ps x ↔ ((x ≡ (c.args.node, c.args.stated)) ⊎ Contains c.args.self.now x)) (sym new) (Contains-insert c.args.self.now c.in-Err.at (c.args.node, c.args.stated) x)
