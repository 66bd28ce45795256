-- Partials, read row by row.
use Rattle.std.proofs.Common.{◌≡◌, ℕ, ◌<◌, ℤ, pos, negsuc, neg_ℤ, ◌+ℤ◌, ◌≤ℤ◌, arith, List, [], ◌∷◌, length, get_or, Bool, true, false, Option, Some, None, IsSome, IfSome, nat_lt, refl, sym, ap, ◌∙◌, lt-ltb}
use Rattle.std.proofs.lemmas.Int.{ints}
use Rattle.std.proofs.lemmas.Bool.Decides.{nat_tests}
use Rattle.druid_time.specs.Instant.{IsInstant, unix_ms, instant_count, unix_epoch}
use Rattle.serde_json.specs.View.{view, items_view}
use Rattle.serde_json.specs.declared.value.Value.{Value}
use Rattle.druid_partial_text.specs.Read.{instant_of, instant_beyond, three_of}

-- ---- instants

beyond_epoch : (t : ℕ) → unix_ms t +ℤ pos unix_epoch ≡ pos t
beyond_epoch t = omega (arith, ints)

beyond : (t : ℕ) → IsInstant t → instant_beyond (pos t) ≡ Some t
beyond t h = rw (lt-ltb t instant_count h) refl

pub instant_there : (t : ℕ) (ms : ℤ) → IsInstant t → unix_ms t ≡ ms → Some t ≡ instant_of ms
unfolding instant_of
instant_there t ms h is = sym (ap (λ z. instant_beyond (z +ℤ pos unix_epoch)) (sym is) ∙ ap instant_beyond (beyond_epoch t) ∙ beyond t h)

abbrev InRange : ℤ → Type 0
InRange ms = (neg_ℤ (pos 62167219200000) ≤ℤ ms) × (ms ≤ℤ pos 253402300799999)

in_range : (ms : ℤ) (t : ℕ) → pos t ≡ ms +ℤ pos unix_epoch → t < instant_count → InRange ms
in_range ms t is h = (omega (arith, ints), omega (arith, ints))

no_instant : (ms z : ℤ) → z ≡ ms +ℤ pos unix_epoch → (InRange ms → ⊥) → None ≡ instant_beyond z
no_instant ms (pos t) is not = through (nat_lt t instant_count) refl
  where
    through : (b : Bool) → nat_lt t instant_count ≡ b → None ≡ instant_beyond (pos t)
    through true e = let below : t < instant_count = grind (arith, nat_tests) in absurd (not (in_range ms t is below))
    through false e = rw e refl
no_instant ms (negsuc n) is not = refl

-- what `Instant::new` answers
pub instant_new : (o : Option ℕ) (ms : ℤ) → (IsSome o → InRange ms) × (InRange ms → IsSome o) → IfSome o (λ t. unix_ms t ≡ ms) → IfSome o IsInstant → o ≡ instant_of ms
unfolding instant_of
instant_new None ms valid value range = no_instant ms (ms +ℤ pos unix_epoch) refl (λ h. let some : IsSome {T = ℕ} None = valid.1 h in absurd (cc))
instant_new (Some t) ms valid value range = instant_there t ms range value

-- ---- three items

pub not_three : (vs : List Value) → (length vs ≡ 3 → ⊥) → None ≡ three_of (items_view vs)
not_three [] not = refl
not_three (a ∷ []) not = refl
not_three (a ∷ b ∷ []) not = refl
not_three (a ∷ b ∷ c ∷ []) not = absurd (not refl)
not_three (a ∷ b ∷ c ∷ d ∷ more) not = refl

pub three_there : (vs : List Value) (a b c : Value) → length vs ≡ 3 → a ≡ get_or vs 0 a → b ≡ get_or vs 1 b → c ≡ get_or vs 2 c
    → Some (record { first = view a; second = view b; third = view c }) ≡ three_of (items_view vs)
three_there [] a b c many first second third = absurd (omega arith)
three_there (x ∷ []) a b c many first second third = absurd (omega arith)
three_there (x ∷ y ∷ []) a b c many first second third = absurd (omega arith)
three_there (x ∷ y ∷ z ∷ []) a b c many first second third = rw (first, second, third) refl
three_there (x ∷ y ∷ z ∷ w ∷ more) a b c many first second third = absurd (omega arith)
