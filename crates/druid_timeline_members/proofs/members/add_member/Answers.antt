use Rattle.std.proofs.Common.{◌≡◌, ◌↔◌, ◌⊎◌, ℕ, List, [], ◌∷◌, sym, ap, refl, subst, map, Some, Option, unwrap_or, IsSome, inl, inr}
use Rattle.std.specs.Ordering.{nat_cmp}
use Rattle.std.specs.BTreeMap as tree
use Rattle.std.specs.List.{Contains}
use Rattle.std.specs.Result.{IfOk}
use Rattle.std.specs.Bool.{IsTrue}
use Rattle.druid_base.proofs.MemberLemmas.{Contains-nil}
use Rattle.druid_timeline_members.proofs.OneLemmas.{Contains-one, one-Contains}
use Rattle.druid_base.proofs.ClauseLemmas.{always_err}
use Rattle.druid_timeline_members.specs.Slots.{Statement, Replica, NoneEmpty}
use Rattle.druid_timeline_members.proofs.SlotLemmas.{NoneEmpty-update, HasOne, HasOne-added}
use Rattle.druid_timeline_members.proofs.members.add_member.Goals as goal

-- what holds of two slots holds of them where a map has them
at_slots : (node : ℕ) (stated : Statement) (r : Replica) (new old : Option (List Replica)) (s t : List Replica) → new ≡ Some s → t ≡ unwrap_or old [] → (Contains s r ↔ ((r ≡ (node, stated)) ⊎ Contains t r)) → Contains (unwrap_or new []) r ↔ ((r ≡ (node, stated)) ⊎ Contains (unwrap_or old []) r)
at_slots node stated r new old s t e f h =
    let h' = subst (λ (xs : List Replica). Contains s r ↔ ((r ≡ (node, stated)) ⊎ Contains xs r)) f h in
    subst (λ (o : Option (List Replica)). Contains (unwrap_or o []) r ↔ ((r ≡ (node, stated)) ⊎ Contains (unwrap_or old []) r)) (sym e) h'

pub returns-in-Some-clause-held : goal.returns-in-Some-clause-held
returns-in-Some-clause-held c =
    subst (λ (o : Option (List Replica)). IfOk c.add.result (λ added. IsTrue added ↔ (Contains (map (λ r. r.0) (unwrap_or o [])) c.args.node → ⊥))) c.in-Some.ensures.value c.add.ensures.held

pub returns-in-Some-clause-added : goal.returns-in-Some-clause-added
returns-in-Some-clause-added c h r =
    let was = c.in-Some.ensures.value in
    let written = (c.get_mut.follows.holds c.add.new.self).3 (subst IsSome was refl) in
    at_slots c.args.node c.args.stated r (tree.get nat_cmp (c.get_mut.follows.lender c.add.new.self) c.args.partition) (tree.get nat_cmp c.args.slots.now c.args.partition) c.add.new.self c.in-Some.slot.now written.1 (ap (λ (o : Option (List Replica)). unwrap_or o []) was) (c.add.ensures.added h r)

-- the only one there is the one that is added
alone : (x r : Replica) → Contains (x ∷ []) r ↔ ((r ≡ x) ⊎ Contains [] r)
alone x r = (λ there. inl (sym (Contains-one x r there)), back) where
  back : (r ≡ x) ⊎ Contains [] r → Contains (x ∷ []) r
  back (inl same) = one-Contains x r (sym same)
  back (inr none) = absurd (Contains-nil r none)

pub returns-clause-added : goal.returns-clause-added
returns-clause-added c h r =
    let was = c.in_default.ensures.value in
    let all = subst (λ (xs : List Replica). Contains xs r ↔ ((r ≡ (c.args.node, c.args.stated)) ⊎ Contains [] r)) (sym c.of.ensures) (alone (c.args.node, c.args.stated) r) in
    at_slots c.args.node c.args.stated r (tree.get nat_cmp c.insert.new.self c.args.partition) (tree.get nat_cmp c.args.slots.now c.args.partition) c.of.result [] c.in_ok-insert.ensures.updates.1 (ap (λ (o : Option (List Replica)). unwrap_or o []) was) all

pub returns-in-Some-clause-none_empty : goal.returns-in-Some-clause-none_empty
returns-in-Some-clause-none_empty c none =
    let was = c.in-Some.ensures.value in
    let written = (c.get_mut.follows.holds c.add.new.self).3 (subst IsSome was refl) in
    let one = none c.args.partition c.in-Some.slot.now (sym was) in
    NoneEmpty-update c.args.slots.now (c.get_mut.follows.lender c.add.new.self) c.add.new.self (tree.is_at (nat_cmp c.args.partition)) written.0 (HasOne-added c.add.result c.in-Some.slot.now c.add.new.self c.args.node c.args.stated c.add.ensures.added c.add.ensures.same c.add.ensures.err one) none

pub returns-clause-none_empty : goal.returns-clause-none_empty
returns-clause-none_empty c none =
    let one : HasOne c.of.result = ((c.args.node, c.args.stated), subst (λ (xs : List Replica). Contains xs (c.args.node, c.args.stated)) (sym c.of.ensures) (one-Contains _ _ refl)) in
    NoneEmpty-update c.get_mut.follows.lender-at-none c.insert.new.self c.of.result (tree.is_at (nat_cmp c.args.partition)) c.in_ok-insert.ensures.updates.0 one (subst NoneEmpty (sym c.get_mut.follows.holds-at-none) none)

pub returns-in_err-insert-clause-absent : goal.returns-in_err-insert-clause-absent
returns-in_err-insert-clause-absent c =
    always_err c.from_residual.result _ (subst (λ (o : Option (List Replica)). Contains (map (λ (r : Replica). r.0) (unwrap_or o [])) c.args.node → ⊥) c.in_default.ensures.value (Contains-nil c.args.node))
