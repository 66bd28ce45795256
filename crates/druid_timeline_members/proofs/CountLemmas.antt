-- How many of the first numbers have a slot.
use Rattle.std.proofs.Common.{◌≡◌, ◌+◌, ◌<◌, ◌≤◌, ◌⊎◌, ◌↔◌, ℕ, zero, suc, Bool, true, false, not, cond, List, [], ◌∷◌, map, Option, Some, None, IsSome, is_some, nat_lt, refl, sym, ap, ◌∙◌, subst, inl, inr, arith}
use mathlib.Core.Bool.{beq}
use Rattle.std.specs.Bool.{IsTrue}
use Rattle.std.specs.Ordering.{nat_cmp}
use Rattle.std.specs.declared.cmp.Ordering.TheVariants.{Less, Equal, Greater}
use Rattle.std.specs.BTreeMap as tree
use Rattle.std.specs.Cmp.{nat_cmp_total}
use Rattle.std.specs.List.{Contains}
use Rattle.std.specs.List.Sorted.{IsStrictlySortedBy}
use Rattle.std.proofs.lemmas.Bool.{cases_eq, cases_order, false≢true, lt-ltb, ltb-true}
use Rattle.std.proofs.lemmas.List.Elements.{All-contains, All-from_recursion}
use Rattle.std.proofs.lemmas.Map.Keys.{sorted_head, sorted_tail}
use Rattle.std.proofs.lemmas.Map.Lookups.{exact_unsigned}
use Rattle.std.proofs.lemmas.Map.Views.{btree_map_contains_key_iff}
use Rattle.druid_base.proofs.OrderLemmas.{nat_cmp-eq, nat_cmp-gt}
use Rattle.druid_base.proofs.MemberLemmas.{Contains-nil, Contains-cons, Contains-later}
use Rattle.druid_timeline_members.specs.Members.{SameMembers}
use Rattle.druid_timeline_members.specs.Slots.{Replica, members_in, NoneEmpty, kept_below}
use Rattle.druid_timeline_members.proofs.SlotLemmas.{Slots, KeepsOthers, kept-HasPartition}

abbrev pub one_if : Bool → ℕ
one_if b = cond b 1 0

-- ---- all of them, or not

pub kept_below-most : (m : Slots) (n : ℕ) → kept_below m n ≤ n
kept_below-most m zero = omega arith
kept_below-most m (suc n) = by (is_some (tree.get nat_cmp m n)) (kept_below-most m n) where
  by : (b : Bool) → kept_below m n ≤ n → kept_below m n + cond b 1 0 ≤ suc n
  by true l = omega arith
  by false l = omega arith

pub kept_below-all : (m : Slots) (n : ℕ) → kept_below m n ≡ n → (p : ℕ) → p < n → IsSome (tree.get nat_cmp m p)
kept_below-all m zero e p l = absurd (omega arith)
kept_below-all m (suc n) e p l = by (is_some (tree.get nat_cmp m n)) refl e (kept_below-most m n) (λ f. kept_below-all m n f p) (cases_eq p n) where
  by : (b : Bool) → is_some (tree.get nat_cmp m n) ≡ b → kept_below m n + cond b 1 0 ≡ suc n → kept_below m n ≤ n → (kept_below m n ≡ n → p < n → IsSome (tree.get nat_cmp m p)) → (p ≡ n) ⊎ (p ≡ n → ⊥) → IsSome (tree.get nat_cmp m p)
  by true f e le rest (inl same) = subst (λ (k : ℕ). IsSome (tree.get nat_cmp m k)) (sym same) f
  by true f e le rest (inr other) = rest (omega arith) (omega arith)
  by false f e le rest either = absurd (omega arith)

pub kept_below-whole : (m : Slots) (n : ℕ) → ((p : ℕ) → p < n → IsSome (tree.get nat_cmp m p)) → kept_below m n ≡ n
kept_below-whole m zero all = refl
kept_below-whole m (suc n) all = by (is_some (tree.get nat_cmp m n)) (all n (omega arith)) (kept_below-whole m n (λ p l. all p (omega arith))) where
  by : (b : Bool) → IsTrue b → kept_below m n ≡ n → kept_below m n + cond b 1 0 ≡ suc n
  by true t e = omega arith
  by false t e = absurd (false≢true t)

-- ---- a change of one partition

same_bit : (a b : Option (List Replica)) → (IsSome a ↔ IsSome b) → is_some a ≡ is_some b
same_bit None None h = refl
same_bit None (Some s) h = absurd (false≢true (h.1 refl))
same_bit (Some s) None h = absurd (false≢true (h.0 refl))
same_bit (Some s) (Some t) h = refl

pub kept_below-equal : (m n : Slots) (k : ℕ) → ((p : ℕ) → p < k → is_some (tree.get nat_cmp n p) ≡ is_some (tree.get nat_cmp m p)) → kept_below n k ≡ kept_below m k
kept_below-equal m n zero h = refl
kept_below-equal m n (suc k) h =
    let rest = kept_below-equal m n k (λ p l. h p (omega arith)) in
    λ i. rest i + cond (h k (omega arith) i) 1 0

-- where the members are the same
pub kept_below-same : (m n : Slots) (k : ℕ) → tree.IsOrdered nat_cmp m → tree.IsOrdered nat_cmp n → NoneEmpty m → NoneEmpty n → SameMembers (members_in m.entries) (members_in n.entries) → kept_below n k ≡ kept_below m k
kept_below-same m n k om on nm nn same =
    kept_below-equal m n k (λ p l. same_bit (tree.get nat_cmp n p) (tree.get nat_cmp m p) (each p)) where
      each : (p : ℕ) → IsSome (tree.get nat_cmp n p) ↔ IsSome (tree.get nat_cmp m p)
      each p =
          let a = kept-HasPartition m p om nm in
          let b = kept-HasPartition n p on nn in (
            λ t. let x = b.0 t in a.1 (x.0, (same x.0).0 x.1, x.2),
            λ t. let x = a.0 t in b.1 (x.0, (same x.0).1 x.1, x.2),
          )

-- where it lies beyond, or is there as before
pub kept_below-kept : (m n : Slots) (p k : ℕ) → KeepsOthers m n p → (k ≤ p) ⊎ (is_some (tree.get nat_cmp n p) ≡ is_some (tree.get nat_cmp m p)) → kept_below n k ≡ kept_below m k
kept_below-kept m n p k kept either = kept_below-equal m n k each where
  at_p : (q : ℕ) → q < k → q ≡ p → (k ≤ p) ⊎ (is_some (tree.get nat_cmp n p) ≡ is_some (tree.get nat_cmp m p)) → is_some (tree.get nat_cmp n q) ≡ is_some (tree.get nat_cmp m q)
  at_p q l same (inl beyond) = absurd (omega arith)
  at_p q l same (inr e) =
      subst (λ (r : ℕ). is_some (tree.get nat_cmp n r) ≡ is_some (tree.get nat_cmp m r)) (sym same) e

  each : (q : ℕ) → q < k → is_some (tree.get nat_cmp n q) ≡ is_some (tree.get nat_cmp m q)
  each q l = elim (cases_eq q p) [
    | inl same ↦ at_p q l same either
    | inr other ↦ ap is_some (kept q other)
  ]

-- where it is there now and was not before
pub kept_below-more : (m n : Slots) (p k : ℕ) → KeepsOthers m n p → p < k → is_some (tree.get nat_cmp m p) ≡ false → is_some (tree.get nat_cmp n p) ≡ true → kept_below n k ≡ kept_below m k + 1
kept_below-more m n p zero kept l was now = absurd (omega arith)
kept_below-more m n p (suc k) kept l was now = by (cases_eq k p) (λ less. kept_below-more m n p k kept less was now) where
  by : (k ≡ p) ⊎ (k ≡ p → ⊥) → (p < k → kept_below n k ≡ kept_below m k + 1) → kept_below n (suc k) ≡ kept_below m (suc k) + 1
  by (inl same) rest =
      let below = kept_below-kept m n p k kept (inl (omega arith)) in
      let a : one_if (is_some (tree.get nat_cmp n k)) ≡ 1 = ap one_if (ap (λ (r : ℕ). is_some (tree.get nat_cmp n r)) same ∙ now) in
      let b : one_if (is_some (tree.get nat_cmp m k)) ≡ 0 = ap one_if (ap (λ (r : ℕ). is_some (tree.get nat_cmp m r)) same ∙ was) in
      omega (arith, below, a, b)
  by (inr other) rest =
      let below = rest (omega arith) in
      let a : one_if (is_some (tree.get nat_cmp n k)) ≡ one_if (is_some (tree.get nat_cmp m k)) = ap (λ (o : Option (List Replica)). one_if (is_some o)) (kept k other) in
      omega (arith, below, a)

-- ---- counted by a walk

abbrev pub Entries : Type 0
Entries = List (ℕ × List Replica)

abbrev pub counted : ℕ → Entries → ℕ
counted n [] = 0
counted n (e ∷ es) = one_if (nat_lt e.0 n) + counted n es

abbrev keys_in : Entries → List ℕ
keys_in es = map (λ (e : ℕ × List Replica). e.0) es

bit_yes : (k n : ℕ) → k < n → one_if (nat_lt k n) ≡ 1
bit_yes k n l = ap one_if (lt-ltb k n l)

bit_no : (k n : ℕ) → n ≤ k → one_if (nat_lt k n) ≡ 0
bit_no k n l = by (nat_lt k n) refl where
  by : (b : Bool) → nat_lt k n ≡ b → one_if b ≡ 0
  by true e = absurd (let m = ltb-true k n e in omega arith)
  by false e = refl

bit_other : (k n : ℕ) → (k ≡ n → ⊥) → one_if (nat_lt k (suc n)) ≡ one_if (nat_lt k n)
bit_other k n other = elim (cases_order k n) [
  | inl same ↦ absurd (other same)
  | inr (inl below) ↦ bit_yes k (suc n) (omega arith) ∙ sym (bit_yes k n below)
  | inr (inr above) ↦ bit_no k (suc n) (omega arith) ∙ sym (bit_no k n (omega arith))
]

counted-zero : (es : Entries) → counted 0 es ≡ 0
counted-zero [] = refl
counted-zero (e ∷ es) = let a = bit_no e.0 0 (omega arith) in let b = counted-zero es in omega (arith, a, b)

counted-out : (es : Entries) (n : ℕ) → (Contains (keys_in es) n → ⊥) → counted (suc n) es ≡ counted n es
counted-out [] n none = refl
counted-out (e ∷ es) n none =
    let a = bit_other e.0 n (λ same. none (0, omega arith, same)) in
    let b = counted-out es n (λ there. none (Contains-later e.0 (keys_in es) n there)) in
    omega (arith, a, b)

nat_cmp-Less : (k n : ℕ) → nat_cmp k n ≡ Less → k < n
nat_cmp-Less k n less = elim (cases_order k n) [
  | inl same ↦
      absurd (let e : Equal ≡ Less = sym (nat_cmp-eq k) ∙ ap (nat_cmp k) same ∙ less in cc)
  | inr (inl below) ↦ below
  | inr (inr above) ↦ absurd (let e : Greater ≡ Less = sym (nat_cmp-gt k n above) ∙ less in cc)
]

-- numbers after the first of a rising list are above it
above_head : (k : ℕ) (ks : List ℕ) → IsStrictlySortedBy nat_cmp (k ∷ ks) → (n : ℕ) → Contains ks n → k < n
above_head k ks up n there =
    let less = All-contains (λ (y : ℕ). nat_cmp k y ≡ Less) ks n (All-from_recursion (λ (y : ℕ). nat_cmp k y ≡ Less) ks (sorted_head nat_cmp k ks up)) there in
    nat_cmp-Less k n less

counted-in : (es : Entries) (n : ℕ) → IsStrictlySortedBy nat_cmp (keys_in es) → Contains (keys_in es) n → counted (suc n) es ≡ counted n es + 1
counted-in [] n up there = absurd (Contains-nil n there)
counted-in (e ∷ es) n up there =
    by (Contains-cons e.0 (keys_in es) n there) (counted-in es n (sorted_tail nat_cmp e.0 (keys_in es) up)) where
      by : (e.0 ≡ n) ⊎ Contains (keys_in es) n → (Contains (keys_in es) n → counted (suc n) es ≡ counted n es + 1) → counted (suc n) (e ∷ es) ≡ counted n (e ∷ es) + 1
      by (inl here) rest =
          let a = bit_yes e.0 (suc n) (omega arith) in
          let b = bit_no e.0 n (omega arith) in
          let c = counted-out es n (λ later. let l = above_head e.0 (keys_in es) up n later in omega arith) in
          omega (arith, a, b, c)
      by (inr later) rest =
          let l = above_head e.0 (keys_in es) up n later in
          let a = bit_other e.0 n (λ same. omega arith) in
          let b = rest later in
          omega (arith, a, b)

pub counted-kept : (m : Slots) → tree.IsOrdered nat_cmp m → (n : ℕ) → counted n m.entries ≡ kept_below m n
counted-kept m om zero = counted-zero m.entries
counted-kept m om (suc n) = by (is_some (tree.get nat_cmp m n)) refl (counted-kept m om n) where
  by : (b : Bool) → is_some (tree.get nat_cmp m n) ≡ b → counted n m.entries ≡ kept_below m n → counted (suc n) m.entries ≡ kept_below m n + cond b 1 0
  by true e rest =
      let a = counted-in m.entries n om ((btree_map_contains_key_iff nat_cmp_total exact_unsigned m n).0 e) in omega (arith, a, rest)
  by false e rest =
      let a = counted-out m.entries n (λ there. false≢true (sym e ∙ (btree_map_contains_key_iff nat_cmp_total exact_unsigned m n).1 there)) in omega (arith, a, rest)

pub counted-more : (e : ℕ × List Replica) (es : Entries) (n : ℕ) → e.0 < n → counted n (e ∷ es) ≡ counted n es + 1
counted-more e es n l = let a = bit_yes e.0 n l in omega (arith, a)

-- ---- two tests that agree, or not

pub beq_same : (a b : Bool) → beq a b ≡ true → a ≡ b
beq_same true true e = refl
beq_same true false e = absurd (false≢true e)
beq_same false true e = absurd (false≢true e)
beq_same false false e = refl

pub beq_other : (a b c : Bool) → beq a b ≡ false → a ≡ c → b ≡ not c
beq_other a true true e f = absurd (false≢true (sym e ∙ ap (λ (x : Bool). beq x true) f))
beq_other a false true e f = refl
beq_other a true false e f = refl
beq_other a false false e f = absurd (false≢true (sym e ∙ ap (λ (x : Bool). beq x false) f))
