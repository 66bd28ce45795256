use Rattle.std.proofs.Common.{◌∙◌, ◌≡◌, ◌↔◌, ◌⊎◌, ℕ, List, [], ◌∷◌, sym, ap, refl, subst, map, Some, Option, unwrap_or, IsSome, inl, inr, arith}
use Rattle.std.specs.Ordering.{nat_cmp}
use Rattle.std.specs.BTreeMap as tree
use Rattle.std.specs.Bool.{IsTrue}
use Rattle.std.specs.List.{Contains}
use Rattle.std.proofs.lemmas.Bool.{cases_eq, false≢true}
use Rattle.druid_base.proofs.MemberLemmas.{Contains-nil, Contains-cons, Contains-later, Contains-map_back}
use Rattle.druid_timeline_members.proofs.SlotLemmas.{NoneEmpty-update, HasOne}
use Rattle.druid_timeline_members.specs.Slots.{Statement, Replica, EachOnce}
use Rattle.druid_timeline_members.proofs.members.remove_member.Goals as goal

-- what holds of two slots holds of them where a map has them
at_slots : (node : ℕ) (r : Replica) (new old : Option (List Replica)) (s t : List Replica) → unwrap_or new [] ≡ s → unwrap_or old [] ≡ t → (Contains s r ↔ (Contains t r × (r.0 ≡ node → ⊥))) → Contains (unwrap_or new []) r ↔ (Contains (unwrap_or old []) r × (r.0 ≡ node → ⊥))
at_slots node r new old s t e f h =
    subst (λ (xs : List Replica). Contains xs r ↔ (Contains (unwrap_or old []) r × (r.0 ≡ node → ⊥))) (sym e)
    (subst (λ (xs : List Replica). Contains s r ↔ (Contains xs r × (r.0 ≡ node → ⊥))) (sym f) h)

of_some : (o : Option (List Replica)) (s : List Replica) → o ≡ Some s → unwrap_or o [] ≡ s
of_some o s e = ap (λ (x : Option (List Replica)). unwrap_or x []) e

-- one that is not of the node, where not all are
other_one : (s : List Replica) (node : ℕ) → (((r : Replica) → Contains s r → r.0 ≡ node) → ⊥) → (r : Replica) × Contains s r × (r.0 ≡ node → ⊥)
other_one [] node not = absurd (not (λ r there. absurd (Contains-nil r there)))
other_one (x ∷ s) node not = elim (cases_eq x.0 node) [
  | inl same ↦
      let other = other_one s node (λ all. not (λ r there. all_of r all same (Contains-cons x s r there))) in
      (other.0, Contains-later x s other.0 other.1, other.2)
  | inr other ↦ (x, (0, omega arith, refl), other)
] where
  all_of : (r : Replica) → ((r : Replica) → Contains s r → r.0 ≡ node) → x.0 ≡ node → (x ≡ r) ⊎ Contains s r → r.0 ≡ node
  all_of r all same (inl first) = sym (ap (λ (y : Replica). y.0) first) ∙ same
  all_of r all same (inr later) = all r later

-- the only node of a slot is one member
only_one : (s : List Replica) (node : ℕ) → HasOne s → EachOnce s → ((r : Replica) → Contains s r → r.0 ≡ node) → (stated : Statement) × ((r : Replica) → Contains s r ↔ ((r ≡ (node, stated)) ⊎ Contains [] r))
only_one s node (x, there) once all = (x.1, λ r. (λ inside. inl (once r x inside there (all r inside ∙ sym (all x there)) ∙ named), back r)) where
  named : x ≡ (node, x.1)
  named = ap (λ (n : ℕ). (n, x.1)) (all x there)

  back : (r : Replica) → (r ≡ (node, x.1)) ⊎ Contains [] r → Contains s r
  back r (inl same) = subst (λ (y : Replica). Contains s y) (named ∙ sym same) there
  back r (inr none) = absurd (Contains-nil r none)

-- the same of the one that goes
one_at_slots : (node : ℕ) (new old : Option (List Replica)) (s t : List Replica) → unwrap_or new [] ≡ s → unwrap_or old [] ≡ t
    → ((stated : Statement) × ((r : Replica) → Contains t r ↔ ((r ≡ (node, stated)) ⊎ Contains s r))) → (stated : Statement) × ((r : Replica) → Contains (unwrap_or old []) r ↔ ((r ≡ (node, stated)) ⊎ Contains (unwrap_or new []) r))
one_at_slots node new old s t e f one = (
  one.0,
  λ r.
      subst (λ (xs : List Replica). Contains (unwrap_or old []) r ↔ ((r ≡ (node, one.0)) ⊎ Contains xs r)) (sym e)
      (subst (λ (xs : List Replica). Contains xs r ↔ ((r ≡ (node, one.0)) ⊎ Contains s r)) (sym f) (one.1 r)),
)

pub returns-then-is_only-clause-held : goal.returns-then-is_only-clause-held
returns-then-is_only-clause-held c =
    let was = sym c.in-Some.ensures.value in
    let one = c.requires c.args.partition c.in-Some.slot.now was in
    let node = Contains-map_back (λ (r : Replica). r.0) c.in-Some.slot.now one.0 one.1 in
    let at = c.is_only.ensures.value.0 c.if-is_only.true one.0 one.1 in
    (λ _. subst (λ (rs : List Replica). Contains (map (λ (r : Replica). r.0) rs) c.args.node) (sym (of_some _ _ was)) (subst (λ (k : ℕ). Contains (map (λ (r : Replica). r.0) c.in-Some.slot.now) k) at node), λ _. refl)

pub returns-then-is_only-clause-removed : goal.returns-then-is_only-clause-removed
returns-then-is_only-clause-removed c r =
    let was = sym c.in-Some.ensures.value in
    let gone = ap (λ (o : Option (List Replica)). unwrap_or o []) c.remove.ensures.updates.1 in
    at_slots c.args.node r (tree.get nat_cmp c.remove.new.self c.args.partition) (tree.get nat_cmp c.args.slots.now c.args.partition) [] c.in-Some.slot.now gone (of_some _ _ was)
    (λ none. absurd (Contains-nil r none), λ both. absurd (both.1 (c.is_only.ensures.value.0 c.if-is_only.true r both.0)))

pub returns-then-is_only-clause-one : goal.returns-then-is_only-clause-one
returns-then-is_only-clause-one c _ =
    let was = sym c.in-Some.ensures.value in
    let gone = ap (λ (o : Option (List Replica)). unwrap_or o []) c.remove.ensures.updates.1 in
    one_at_slots c.args.node (tree.get nat_cmp c.remove.new.self c.args.partition) (tree.get nat_cmp c.args.slots.now c.args.partition) [] c.in-Some.slot.now gone (of_some _ _ was)
    (only_one c.in-Some.slot.now c.args.node (c.requires c.args.partition c.in-Some.slot.now was) c.is_only.ensures.once (c.is_only.ensures.value.0 c.if-is_only.true))

pub returns-clause-held : goal.returns-clause-held
returns-clause-held c =
    subst (λ (rs : List Replica). IsTrue c.remove-2.result ↔ Contains (map (λ (r : Replica). r.0) rs) c.args.node) (sym (of_some _ _ (sym c.in-Some.ensures.value))) c.remove-2.ensures.held

pub returns-clause-removed : goal.returns-clause-removed
returns-clause-removed c r =
    let was = c.in-Some.ensures.value in
    let written = (c.get_mut.follows.holds c.remove-2.new.self).3 (subst IsSome was refl) in
    at_slots c.args.node r (tree.get nat_cmp (c.get_mut.follows.lender c.remove-2.new.self) c.args.partition) (tree.get nat_cmp c.args.slots.now c.args.partition) c.remove-2.new.self c.in-Some.slot.now (of_some _ _ written.1) (of_some _ _ (sym was)) (c.remove-2.ensures.removed r)

pub returns-clause-none_empty : goal.returns-clause-none_empty
returns-clause-none_empty c =
    let was = c.in-Some.ensures.value in
    let written = (c.get_mut.follows.holds c.remove-2.new.self).3 (subst IsSome was refl) in
    let other = other_one c.in-Some.slot.now c.args.node (λ all. false≢true (sym c.if-is_only.false ∙ c.is_only.ensures.value.1 all)) in
    NoneEmpty-update c.args.slots.now (c.get_mut.follows.lender c.remove-2.new.self) c.remove-2.new.self (tree.is_at (nat_cmp c.args.partition)) written.0 (other.0, (c.remove-2.ensures.removed other.0).1 (other.1, other.2)) c.requires

pub returns-clause-one : goal.returns-clause-one
returns-clause-one c removed =
    let was = c.in-Some.ensures.value in
    let written = (c.get_mut.follows.holds c.remove-2.new.self).3 (subst IsSome was refl) in
    one_at_slots c.args.node (tree.get nat_cmp (c.get_mut.follows.lender c.remove-2.new.self) c.args.partition) (tree.get nat_cmp c.args.slots.now c.args.partition) c.remove-2.new.self c.in-Some.slot.now (of_some _ _ written.1) (of_some _ _ (sym was)) (c.remove-2.ensures.one removed)
