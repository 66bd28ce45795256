-- The thread that waits longest, found one place after another.
use Rattle.std.proofs.Common.{◌≡◌, ◌⊎◌, ℕ, ◌+◌, ◌≤◌, ◌<◌, List, length, Option, None, Some, sym, subst, ◌∙◌, inl, inr, arith}
use Rattle.std.proofs.lemmas.Option.{slice_get_within}
use Rattle.std.proofs.lemmas.Bool.Decides.{leb_tells}
use Rattle.druid_serve_front.specs.declared.seats.Seat.{Seat}
use Rattle.druid_serve_front.specs.declared.seats.Seat.TheVariants.{Waits}
use Rattle.druid_serve_front.specs.Seats.{WaitsSince, IsFree, AreHeld, IsLongest, earlier_of}

-- of the places below i the one found waits longest, and where none is found none waits
abbrev pub IsFound : List Seat → ℕ → Option (ℕ × ℕ) → Type 0
IsFound seats i None = (k t : ℕ) → k < i → WaitsSince seats k t → ⊥
IsFound seats i (Some found) = WaitsSince seats found.0 found.1 × ((k t : ℕ) → k < i → WaitsSince seats k t → found.1 ≤ t)

pub none_yet : (seats : List Seat) → IsFound seats 0 None
none_yet seats k t below waits = absurd (omega (arith, below))

-- one place has one beginning
one_since : (seats : List Seat) (place a b : ℕ) → WaitsSince seats place a → WaitsSince seats place b → a ≡ b
one_since seats place a b first second =
    let both : ◌≡◌ {A = Option Seat} (Some (Waits a)) (Some (Waits b)) = sym first ∙ second in cc

last_or_before : (k i : ℕ) → k < i + 1 → (k < i) ⊎ (k ≡ i)
last_or_before k i below =
    elim (leb_tells i k) [
      | inl high ↦ let h = high.1 in inr (omega (arith, h, below))
      | inr low ↦ inl low.1
    ]

-- a place that waits follows
pub with_wait : (seats : List Seat) (i since : ℕ) (found : Option (ℕ × ℕ)) → WaitsSince seats i since → IsFound seats i found → IsFound seats (i + 1) (earlier_of found i since)
with_wait seats i since None waits none = (
  waits,
  λ k t below w.
      elim (last_or_before k i below) [
        | inl before ↦ absurd (none k t before w)
        | inr same ↦ let e = one_since seats i since t waits (subst (λ (j : ℕ). WaitsSince seats j t) same w) in omega (arith, e)
      ],
)
with_wait seats i since (Some found) waits is =
    elim (leb_tells found.1 since) [
      | inl early ↦
          rw early.0 (
            is.0,
            λ k t below w.
                elim (last_or_before k i below) [
                  | inl before ↦ is.1 k t before w
                  | inr same ↦ let e = one_since seats i since t waits (subst (λ (j : ℕ). WaitsSince seats j t) same w) in let f = early.1 in omega (arith, e, f)
                ],
          )
      | inr late ↦
          rw late.0 (
            waits,
            λ k t below w.
                elim (last_or_before k i below) [
                  | inl before ↦ let f = is.1 k t before w in let g = late.1 in omega (arith, f, g)
                  | inr same ↦ let e = one_since seats i since t waits (subst (λ (j : ℕ). WaitsSince seats j t) same w) in omega (arith, e)
                ],
          )
    ]

-- a place that does not follows
pub without_wait : (seats : List Seat) (i : ℕ) (found : Option (ℕ × ℕ)) → ((t : ℕ) → WaitsSince seats i t → ⊥) → IsFound seats i found → IsFound seats (i + 1) found
without_wait seats i None other none = λ k t below w.
    elim (last_or_before k i below) [
      | inl before ↦ none k t before w
      | inr same ↦ absurd (other t (subst (λ (j : ℕ). WaitsSince seats j t) same w))
    ]
without_wait seats i (Some found) other is = (
  is.0,
  λ k t below w.
      elim (last_or_before k i below) [
        | inl before ↦ is.1 k t before w
        | inr same ↦ absurd (other t (subst (λ (j : ℕ). WaitsSince seats j t) same w))
      ],
)

-- all places were looked at
pub longest_of_all : (seats : List Seat) (found : ℕ × ℕ) → IsFound seats (length seats) (Some found) → IsLongest seats found.0 found.1
longest_of_all seats found is = record {
  waits = is.0;
  first = λ other later waits. is.1 other later (slice_get_within seats other _ waits) waits;
}

pub none_of_all : (seats : List Seat) → IsFound seats (length seats) None → (place since : ℕ) → WaitsSince seats place since → ⊥
none_of_all seats none place since waits = none place since (slice_get_within seats place _ waits) waits

-- ---- whether one is free

-- the places below i are held
abbrev pub AreHeldBelow : List Seat → ℕ → Type 0
AreHeldBelow seats i = (k : ℕ) → k < i → IsFree seats k → ⊥

pub held_too : (seats : List Seat) (i : ℕ) → (IsFree seats i → ⊥) → AreHeldBelow seats i → AreHeldBelow seats (i + 1)
held_too seats i this held k below free =
    elim (last_or_before k i below) [
      | inl before ↦ held k before free
      | inr same ↦ this (subst (IsFree seats) same free)
    ]

pub all_held : (seats : List Seat) → AreHeldBelow seats (length seats) → AreHeld seats
all_held seats held place free = held place (slice_get_within seats place _ free) free
