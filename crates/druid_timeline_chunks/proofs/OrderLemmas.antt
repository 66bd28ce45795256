-- Chunks in the order of their places: where a chunk is sought, and what stays in order.
use Rattle.std.proofs.Common.{◌≡◌, ◌+◌, ◌<◌, ◌≤◌, ◌⊎◌, ◌&&◌, ◌==◌, ℕ, zero, suc, Bool, true, false, not, List, [], ◌∷◌, length, get_or, set, refl, sym, ap, ◌∙◌, subst, inl, inr, arith, nat_lt}
use Rattle.std.specs.List.{AllWithin, insert, remove}
use Rattle.std.specs.List.Sorted.{IsNonDecreasingBy}
use Rattle.std.proofs.lemmas.Bool.{cases_order, false≢true, lt-ltb, eq-eqb}
use Rattle.std.proofs.lemmas.List.Edits.{length-remove, get_or-remove_below, get_or-remove_above}
use Rattle.std.proofs.lemmas.List.Elements.{All-cons, All-tail}
use Rattle.std.proofs.lemmas.List.Sorted.{All-permutation, IsNonDecreasingBy-insert, IsPermutation-insert, IsPermutation-remove}
use Rattle.druid_time.specs.Extent.{Extent, IsExtent}
use Rattle.druid_segment_id.specs.Group.{Group}
use Rattle.druid_timeline_members.specs.Members.{HasMember}
use Rattle.druid_timeline_chunks.specs.Chunks.{Chunk, HasNoChunk}
use Rattle.druid_timeline_chunks.specs.Places.{place_of, chunk_place, AreInOrder}
use Rattle.druid_timeline_chunks.proofs.EditLemmas.{AreChunks-insert, AreChunks-set, AreChunks-tail, remaining}
use Rattle.druid_timeline_chunks.proofs.PlaceLemmas.{one_interval}

pub not_less : (a b : ℕ) → nat_lt a b ≡ false → b ≤ a
not_less a b e = elim (cases_order a b) [
  | inl level ↦ omega arith
  | inr (inl below) ↦ absurd (false≢true (sym e ∙ lt-ltb a b below))
  | inr (inr above) ↦ omega arith
]

-- ---- a chunk that is sought

-- two intervals that a test tells apart
pub reported_apart : (a b : Extent) (r : Bool) → r ≡ not (a.start == b.start && a.end == b.end) → r ≡ true → a ≡ b → ⊥
reported_apart a b r e reported same =
    let both : (a.start == b.start && a.end == b.end) ≡ true = both_true (a.start == b.start) (a.end == b.end) (eq-eqb a.start b.start (ap (λ (x : Extent). x.start) same)) (eq-eqb a.end b.end (ap (λ (x : Extent). x.end) same)) in
    false≢true (sym (ap not both) ∙ sym e ∙ reported) where
      both_true : (x y : Bool) → x ≡ true → y ≡ true → (x && y) ≡ true
      both_true x y f g = ap (λ (z : Bool). z && y) f ∙ g

-- a chunk of another interval, from which on no chunk stands before this interval, stands after it
pub stands_after : (c : Chunk) (e : Extent) → IsExtent c.0.interval → IsExtent e → place_of e ≤ chunk_place c → (c.0.interval ≡ e → ⊥) → place_of e < chunk_place c
stands_after c e vc ve le other = elim (cases_order (place_of e) (chunk_place c)) [
  | inl level ↦ absurd (other (one_interval c.0.interval e vc ve (sym level)))
  | inr (inl below) ↦ below
  | inr (inr above) ↦ absurd (omega arith)
]

abbrev pub IsOther : Group → Chunk → Type 0
IsOther g c = (c.0.interval ≡ g.interval) × (c.0.version ≡ g.version → ⊥)

-- no chunk before the first of its interval, none of its versions, and none after them
pub absent : (cs : List Chunk) (first i : ℕ) (g : Group) → IsNonDecreasingBy chunk_place cs → AllWithin (λ c. chunk_place c < place_of g.interval) cs 0 first → AllWithin (IsOther g) cs first i
    → (i < length cs → (d : Chunk) → place_of g.interval < chunk_place (get_or cs i d)) → HasNoChunk cs g
absent cs first i g sorted before passed after chunk (k, within, here) same = elim (cases_order k i) [
  | inl level ↦ past (omega arith)
  | inr (inr above) ↦ past (omega arith)
  | inr (inl below) ↦ elim (cases_order k first) [
    | inl level ↦ versions (omega arith) below
    | inr (inr above) ↦ versions (omega arith) below
    | inr (inl early) ↦
        let less = before k chunk (omega arith) early in
        let e : chunk_place (get_or cs k chunk) ≡ place_of g.interval = at in
        omega (arith, less, e)
  ]
] where
  at : chunk_place (get_or cs k chunk) ≡ place_of g.interval
  at = ap (λ (c : Chunk). chunk_place c) here ∙ ap (λ (h : Group). place_of h.interval) same

  versions : first ≤ k → k < i → ⊥
  versions low high =
      (passed k chunk low high).1 (ap (λ (c : Chunk). c.0.version) here ∙ ap (λ (h : Group). h.version) same)

  past : i ≤ k → ⊥
  past low =
      let up = sorted i k chunk low within in
      let less = after (omega arith) chunk in
      omega (arith, up, less, at)

-- chunks before the place that a new one takes stand no later
pub no_later : (cs : List Chunk) (first i : ℕ) (g : Group) → AllWithin (λ c. chunk_place c < place_of g.interval) cs 0 first → AllWithin (IsOther g) cs first i → AllWithin (λ c. chunk_place c ≤ place_of g.interval) cs 0 i
no_later cs first i g before passed k d low high = elim (cases_order k first) [
  | inl level ↦ versions (omega arith)
  | inr (inr above) ↦ versions (omega arith)
  | inr (inl early) ↦ let less = before k d low early in omega (arith, less)
] where
  versions : first ≤ k → chunk_place (get_or cs k d) ≤ place_of g.interval
  versions from = let e = ap place_of (passed k d from high).0 in omega (arith, e)

-- ---- what stays in order

at_remove : (cs : List Chunk) (i k : ℕ) (d : Chunk) → i < length cs → ((k < i) × (get_or (remove cs i) k d ≡ get_or cs k d)) ⊎ ((i ≤ k) × (get_or (remove cs i) k d ≡ get_or cs (k + 1) d))
at_remove cs i k d within = elim (cases_order k i) [
  | inl level ↦ inr (omega arith, get_or-remove_above cs i d k (omega arith) within)
  | inr (inl below) ↦ inl (below, get_or-remove_below cs i d k below within)
  | inr (inr above) ↦ inr (omega arith, get_or-remove_above cs i d k (omega arith) within)
]

pub sorted-remove : (n : Chunk → ℕ) (cs : List Chunk) (i : ℕ) → IsNonDecreasingBy n cs → i < length cs → IsNonDecreasingBy n (remove cs i)
sorted-remove n cs i up within j k d le short = by_place (at_remove cs i j d within) (at_remove cs i k d within) where
  len : length (remove cs i) + 1 ≡ length cs
  len = let l = length-remove cs i within in omega arith

  by_place : ((j < i) × (get_or (remove cs i) j d ≡ get_or cs j d)) ⊎ ((i ≤ j) × (get_or (remove cs i) j d ≡ get_or cs (j + 1) d))
      → ((k < i) × (get_or (remove cs i) k d ≡ get_or cs k d)) ⊎ ((i ≤ k) × (get_or (remove cs i) k d ≡ get_or cs (k + 1) d))
      → n (get_or (remove cs i) j d) ≤ n (get_or (remove cs i) k d)
  by_place (inl a) (inl b) =
      let u = up j k d le (omega (arith, len)) in let e = ap n a.1 in let f = ap n b.1 in omega (arith, u, e, f)
  by_place (inl a) (inr b) =
      let u = up j (k + 1) d (omega arith) (omega (arith, len)) in let e = ap n a.1 in let f = ap n b.1 in omega (arith, u, e, f)
  by_place (inr a) (inl b) = absurd (omega (arith, a.0, b.0))
  by_place (inr a) (inr b) =
      let u = up (j + 1) (k + 1) d (omega arith) (omega (arith, len)) in let e = ap n a.1 in let f = ap n b.1 in omega (arith, u, e, f)

-- a chunk written over one of the same key leaves each key where it was
at_set : (cs : List Chunk) (i : ℕ) (c new : Chunk) (k : ℕ) (d : Chunk) → i < length cs → get_or cs i c ≡ c → new.0 ≡ c.0 → (get_or (set cs i new) k d).0 ≡ (get_or cs k d).0
at_set [] i c new k d within here keeps = absurd (omega arith)
at_set (x ∷ cs) zero c new zero d within here keeps = keeps ∙ ap (λ (y : Chunk). y.0) (sym here)
at_set (x ∷ cs) zero c new (suc k) d within here keeps = refl
at_set (x ∷ cs) (suc i) c new zero d within here keeps = refl
at_set (x ∷ cs) (suc i) c new (suc k) d within here keeps = at_set cs i c new k d (omega arith) here keeps

length_set : (cs : List Chunk) (i : ℕ) (new : Chunk) → length (set cs i new) ≡ length cs
length_set [] i new = refl
length_set (x ∷ cs) zero new = omega arith
length_set (x ∷ cs) (suc i) new = let l = length_set cs i new in omega arith

pub AreInOrder-set : (cs : List Chunk) (i : ℕ) (c new : Chunk) → AreInOrder cs → i < length cs → get_or cs i c ≡ c → new.0 ≡ c.0 → HasMember new.1 → AreInOrder (set cs i new)
AreInOrder-set cs i c new o within here keeps some = record {
  are = AreChunks-set cs i c new o.are within here keeps some;
  valid = λ k d l.
      subst (λ (g : Group). IsExtent g.interval) (sym (at_set cs i c new k d within here keeps)) (o.valid k d (omega (arith, l, length_set cs i new)));
  sorted = λ j k d le l.
      let e = ap (λ (g : Group). place_of g.interval) (at_set cs i c new j d within here keeps) in
      let f = ap (λ (g : Group). place_of g.interval) (at_set cs i c new k d within here keeps) in
      let u = o.sorted j k d le (omega (arith, l, length_set cs i new)) in
      omega (arith, e, f, u);
}

pub AreInOrder-remove : (cs : List Chunk) (i : ℕ) (c : Chunk) → AreInOrder cs → i < length cs → get_or cs i c ≡ c → AreInOrder (remove cs i)
AreInOrder-remove cs i c o within here = record {
  are = AreChunks-tail c (remove cs i) (remaining cs i c o.are within here);
  valid = All-tail valid_at c (remove cs i) (All-permutation valid_at cs (c ∷ remove cs i) (IsPermutation-remove cs i c within (sym here)) o.valid);
  sorted = sorted-remove chunk_place cs i o.sorted within;
} where
  valid_at : Chunk → Type 0
  valid_at x = IsExtent x.0.interval

pub AreInOrder-insert : (cs : List Chunk) (i : ℕ) (c : Chunk) → AreInOrder cs → HasNoChunk cs c.0 → HasMember c.1 → IsExtent c.0.interval → i ≤ length cs
    → AllWithin (λ x. chunk_place x ≤ chunk_place c) cs 0 i → AllWithin (λ x. chunk_place c ≤ chunk_place x) cs i (length cs) → AreInOrder (insert cs i c)
AreInOrder-insert cs i c o none some valid within before after = record {
  are = AreChunks-insert cs i c o.are none some;
  valid = All-permutation valid_at (c ∷ cs) (insert cs i c) (IsPermutation-insert cs i c) (All-cons valid_at c cs valid o.valid);
  sorted = IsNonDecreasingBy-insert chunk_place cs i c o.sorted within (λ k d l. before k d (omega arith) l) after;
} where
  valid_at : Chunk → Type 0
  valid_at x = IsExtent x.0.interval
