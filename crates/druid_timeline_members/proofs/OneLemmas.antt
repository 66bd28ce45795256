-- A list of one.
use Rattle.std.proofs.Common.{◌≡◌, ◌∙◌, ◌⊎◌, ◌↔◌, ℕ, List, [], ◌∷◌, map, refl, sym, ap, subst, inl, inr, arith}
use Rattle.std.specs.Bool.{IsTrue}
use Rattle.std.specs.List.{Contains}
use Rattle.std.specs.List.Sorted.{IsStrictlyIncreasing}
use Rattle.druid_base.proofs.MemberLemmas.{Contains-nil, Contains-cons, Contains-map}
use Rattle.druid_timeline_members.specs.Slots.{Statement, Replica, Serves, EachOnce}

pub Contains-one : {X : Type 0} (x y : X) → Contains (x ∷ []) y → x ≡ y
Contains-one x y there = elim (Contains-cons x [] y there) [
  | inl same ↦ same
  | inr none ↦ absurd (Contains-nil y none)
]

pub one-Contains : {X : Type 0} (x y : X) → x ≡ y → Contains (x ∷ []) y
one-Contains x y same = (0, omega arith, same)

pub rising-one : (n : ℕ) → IsStrictlyIncreasing (n ∷ [])
rising-one n k l = absurd (omega arith)

pub EachOnce-one : (x : Replica) → EachOnce (x ∷ [])
EachOnce-one x y z hy hz same = sym (Contains-one x y hy) ∙ Contains-one x z hz

-- what is added where there is none is alone
pub added-alone : (none one : List Replica) (a : Replica) → none ≡ [] → ((x : Replica) → Contains one x ↔ ((x ≡ a) ⊎ Contains none x)) → (x : Replica) → Contains one x ↔ Contains (a ∷ []) x
added-alone none one a empty added x = (λ there. forth ((added x).0 there), λ there. (added x).1 (inl (sym (Contains-one a x there)))) where
  forth : (x ≡ a) ⊎ Contains none x → Contains (a ∷ []) x
  forth (inl same) = one-Contains a x (sym same)
  forth (inr there) = absurd (Contains-nil x (subst (λ (rs : List Replica). Contains rs x) empty there))

pub absent-none : (none : List Replica) (n : ℕ) → none ≡ [] → Contains (map (λ (r : Replica). r.0) none) n → ⊥
absent-none none n empty there =
    Contains-nil n (subst (λ (rs : List Replica). Contains (map (λ (r : Replica). r.0) rs) n) empty there)

-- of one node, another is not there
pub absent-beside : (one : List Replica) (a : Replica) (n : ℕ) → ((x : Replica) → Contains one x ↔ Contains (a ∷ []) x) → (a.0 ≡ n → ⊥) → Contains (map (λ (r : Replica). r.0) one) n → ⊥
absent-beside one a n alone other there =
    let r = Contains-map (λ (x : Replica). x.0) one n there in
    other (ap (λ (x : Replica). x.0) (Contains-one a r.0 ((alone r.0).0 r.1)) ∙ r.2)

-- one node serves where it says so
pub Serves-one : (n : ℕ) (stated : Statement) → IsTrue stated.serves → (k : ℕ) → Contains (n ∷ []) k ↔ Serves ((n, stated) ∷ []) k
Serves-one n stated serves k = (
  λ there. ((n, stated), one-Contains (n, stated) (n, stated) refl, Contains-one n k there, serves),
  λ (r, there, at_k, _). one-Contains n k (ap (λ (x : Replica). x.0) (Contains-one (n, stated) r there) ∙ at_k),
)
