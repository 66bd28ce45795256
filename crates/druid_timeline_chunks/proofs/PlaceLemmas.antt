-- The order of places.
use Rattle.std.proofs.Common.{◌≡◌, ◌+◌, ◌-◌, ◌*◌, ◌^◌, ◌<◌, ◌≤◌, ◌⊎◌, ◌↔◌, ℕ, suc, [], sym, ap, subst, inl, inr, arith}
use Rattle.std.specs.Bool.{IsTrue}
use lib.Dec.{ltb}
use Rattle.std.proofs.lemmas.Bool.{cases_order, ltb-true, lt-ltb}
use Rattle.std.proofs.lemmas.Nat.{row_fits, leading_top, same_from_place, pow_below}
use Rattle.druid_time.specs.Extent.{Extent, IsExtent}
use Rattle.druid_time.specs.Instant.{instant_count}
use Rattle.druid_timeline_chunks.specs.Places.{length_class, place_below, place_of, AreInOrder}
use Rattle.druid_timeline_chunks.proofs.ChunkLemmas.{AreChunks-nil}

pair_less : (n a b c d : ℕ) → b < n → a < c → a * n + b < c * n + d
pair_less n a b c d small less = let m = row_fits a n c n less (omega arith) in omega arith

pub class_less : (n c s e d t f : ℕ) → s < n → e < n → c < d → place_below n c s e < place_below n d t f
unfolding place_below
class_less n c s e d t f hs he less = pair_less n (c * n + s) e (d * n + t) f he (pair_less n c s d t hs less)

pub start_less : (n c s e t f : ℕ) → e < n → s < t → place_below n c s e < place_below n c t f
unfolding place_below
start_less n c s e t f he less = pair_less n (c * n + s) e (c * n + t) f he (omega arith)

pub end_less : (n c s e f : ℕ) → e < f → place_below n c s e < place_below n c s f
unfolding place_below
end_less n c s e f less = omega arith

-- places are one only where their parts are
pub same_parts : (n c s e d t f : ℕ) → s < n → e < n → t < n → f < n → place_below n c s e ≡ place_below n d t f → (c ≡ d) × (s ≡ t) × (e ≡ f)
unfolding place_below
same_parts n c s e d t f hs he ht hf same =
    let outer = same_from_place (c * n + s) e (d * n + t) f n he hf same in
    let inner = same_from_place c s d t n hs ht outer.0 in
    (inner.0, inner.1, outer.1)

-- an interval is shorter than twice the power of two of its class
pub class_bound : (e : Extent) → IsExtent e → e.end - e.start < 2 ^ (length_class e + 1)
class_bound e valid =
    let top = leading_top 64 (e.end - e.start) (omega (arith, valid.0)) (omega (arith, valid.1)) in
    let same : length_class e + 1 ≡ suc top.0 = omega (arith, top.1) in
    subst (λ (k : ℕ). e.end - e.start < 2 ^ k) (sym same) top.3

-- no interval is as long as 2 ^ 62 milliseconds
pub class_small : (e : Extent) → IsExtent e → length_class e < 63
class_small e valid =
    let top = leading_top 64 (e.end - e.start) (omega (arith, valid.0)) (omega (arith, valid.1)) in
    elim (cases_order top.0 62) [
      | inl level ↦ omega (arith, top.1)
      | inr (inl below) ↦ omega (arith, top.1)
      | inr (inr above) ↦ absurd (let l = pow_below 62 top.0 above in omega (arith, top.2, valid.1))
    ]

pub AreInOrder-nil : AreInOrder []
AreInOrder-nil = record { are = AreChunks-nil; valid = λ k d l. absurd (omega arith); sorted = λ i j d up l. absurd (omega arith) }

-- ---- which of two places comes first, part by part

pub before_by_class : (n c s e d t f : ℕ) → s < n → e < n → t < n → f < n → (c ≡ d → ⊥) → (c < d) ↔ (place_below n c s e < place_below n d t f)
before_by_class n c s e d t f hs he ht hf other = (class_less n c s e d t f hs he, λ less. by_order less (cases_order c d)) where
  by_order : place_below n c s e < place_below n d t f → (c ≡ d) ⊎ (c < d) ⊎ (d < c) → c < d
  by_order less (inl same) = absurd (other same)
  by_order less (inr (inl below)) = below
  by_order less (inr (inr above)) = absurd (let l = class_less n d t f c s e ht hf above in omega arith)

pub before_by_start : (n c s e d t f : ℕ) → s < n → e < n → t < n → f < n → c ≡ d → (s ≡ t → ⊥) → (s < t) ↔ (place_below n c s e < place_below n d t f)
before_by_start n c s e d t f hs he ht hf level other =
    subst (λ (k : ℕ). (s < t) ↔ (place_below n c s e < place_below n k t f)) level (start_less n c s e t f he, λ less. by_order less (cases_order s t)) where
      by_order : place_below n c s e < place_below n c t f → (s ≡ t) ⊎ (s < t) ⊎ (t < s) → s < t
      by_order less (inl same) = absurd (other same)
      by_order less (inr (inl below)) = below
      by_order less (inr (inr above)) = absurd (let l = start_less n c t f s e hf above in omega arith)

pub before_by_end : (n c s e d t f : ℕ) → c ≡ d → s ≡ t → (e < f) ↔ (place_below n c s e < place_below n d t f)
before_by_end n c s e d t f level same =
    subst (λ (p : ℕ × ℕ). (e < f) ↔ (place_below n c s e < place_below n p.0 p.1 f)) (λ i. (level i, same i)) (end_less n c s e f, λ less. by_order less (cases_order e f)) where
      by_order : place_below n c s e < place_below n c s f → (e ≡ f) ⊎ (e < f) ⊎ (f < e) → e < f
      by_order less (inl one) =
          absurd (let l = ap (λ (k : ℕ). place_below n c s k) one in omega arith)
      by_order less (inr (inl below)) = below
      by_order less (inr (inr above)) = absurd (let l = end_less n c s f e above in omega arith)

-- the test of two numbers, at what they stand for
pub test_at : (a b p q x y : ℕ) → (a < b) ↔ (p < q) → p ≡ x → q ≡ y → IsTrue (ltb a b) ↔ (x < y)
test_at a b p q x y h e f =
    subst (λ (z : ℕ × ℕ). IsTrue (ltb a b) ↔ (z.0 < z.1)) (λ i. (e i, f i)) (λ reported. h.0 (ltb-true a b reported), λ less. lt-ltb a b (h.1 less))

-- ---- places from a start on

-- a place before the first of a class and a start
pub before_first : (n c s e d t : ℕ) → s < n → e < n → t < n → place_below n c s e < place_below n d t 0 → (c < d) ⊎ ((c ≡ d) × (s < t))
before_first n c s e d t hs he ht less = by_class (cases_order c d) where
  by_start : c ≡ d → (s ≡ t) ⊎ (s < t) ⊎ (t < s) → (c < d) ⊎ ((c ≡ d) × (s < t))
  by_start level (inl same) =
      absurd (let l = (before_by_end n c s e d t 0 level same).1 less in omega arith)
  by_start level (inr (inl below)) = inr (level, below)
  by_start level (inr (inr above)) =
      absurd (let l = (before_by_start n d t 0 c s e ht (omega arith) hs he (sym level) (λ same. omega arith)).0 above in omega arith)

  by_class : (c ≡ d) ⊎ (c < d) ⊎ (d < c) → (c < d) ⊎ ((c ≡ d) × (s < t))
  by_class (inl level) = by_start level (cases_order s t)
  by_class (inr (inl below)) = inl below
  by_class (inr (inr above)) =
      absurd (let l = class_less n d t 0 c s e ht (omega arith) above in omega arith)

-- a place that is not before it
pub from_first : (n c s e d t : ℕ) → s < n → e < n → t < n → place_below n d t 0 ≤ place_below n c s e → (d < c) ⊎ ((c ≡ d) × (t ≤ s))
from_first n c s e d t hs he ht le = by_class (cases_order c d) where
  by_start : c ≡ d → (s ≡ t) ⊎ (s < t) ⊎ (t < s) → (d < c) ⊎ ((c ≡ d) × (t ≤ s))
  by_start level (inl same) = inr (level, omega arith)
  by_start level (inr (inl below)) =
      absurd (let l = (before_by_start n c s e d t 0 hs he ht (omega arith) level (λ same. omega arith)).0 below in omega arith)
  by_start level (inr (inr above)) = inr (level, omega arith)

  by_class : (c ≡ d) ⊎ (c < d) ⊎ (d < c) → (d < c) ⊎ ((c ≡ d) × (t ≤ s))
  by_class (inl level) = by_start level (cases_order s t)
  by_class (inr (inl below)) = absurd (let l = class_less n c s e d t 0 hs he below in omega arith)
  by_class (inr (inr above)) = inl above

-- ---- what starts too early or too late shares no instant

-- of the class, or a higher one, and before the first start that may share one
pub too_early : (n c s e d t f start width : ℕ) → s < n → e < n → t < n → f < n → start < n → place_below n d t f ≤ place_below n c s e → place_below n c s e < place_below n d (start + 1 - width) 0
    → (c ≡ d → e - s < width) → 0 < width → (i : ℕ) → start ≤ i → s ≤ i → i < e → ⊥
too_early n c s e d t f start width hs he ht hf hstart onward less short some i from_start from_s to_e =
    elim (before_first n c s e d (start + 1 - width) hs he (omega arith) less) [
      | inl below ↦ let l = class_less n c s e d t f hs he below in omega arith
      | inr both ↦ let l = short both.0 in let m = both.1 in omega arith
    ]

-- of the class, or a lower one, and not before its end
pub too_late : (n c s e d end : ℕ) → s < n → e < n → end < n → place_below n d end 0 ≤ place_below n c s e → place_below n c s e < place_below n (d + 1) 0 0 → (i : ℕ) → i < end → s ≤ i → ⊥
too_late n c s e d end hs he hend from less i to_end from_s =
    elim (from_first n c s e d end hs he hend from) [
      | inl above ↦ elim (before_first n c s e (d + 1) 0 hs he (omega arith) less) [
        | inl below ↦ omega arith
        | inr both ↦ let m = both.1 in omega arith
      ]
      | inr both ↦ let m = both.1 in omega arith
    ]

-- an interval's place shows the interval
pub one_interval : (a b : Extent) → IsExtent a → IsExtent b → place_of a ≡ place_of b → a ≡ b
one_interval a b va vb same =
    let parts = same_parts instant_count (length_class a) a.start a.end (length_class b) b.start b.end (omega (arith, va.0, va.1)) va.1 (omega (arith, vb.0, vb.1)) vb.1 same in
    λ i. record { start = parts.1 i; end = parts.2 i }
