-- Instants, and their milliseconds since 1970.
use Rattle.std.proofs.Common.{◌≡◌, ℕ, ℤ, pos, negsuc, neg_ℤ, ◌+ℤ◌, ◌≤ℤ◌, ◌<◌, ltb, Option, Some, None, refl, sym, ap, ◌∙◌, arith}
use Rattle.std.specs.Prelude.{◌↔◌, IsSome, IfSome, FitsSigned}
use Rattle.std.specs.Int.{w64}
use Rattle.std.proofs.lemmas.Bool.{lt-ltb, ltb-true, false≢true}
use Rattle.std.proofs.lemmas.Int.{ints}
use Rattle.std.proofs.lemmas.Option.{cond_some}
use Rattle.druid_time.specs.Instant.{instant_count, unix_epoch, unix_ms, IsInstant}
use Rattle.druid_segment_file.specs.Parts.{instant_from_first, instant_of}

pub instant_of-unix_ms : (t : ℕ) → IsInstant t → instant_of (unix_ms t) ≡ Some t
unfolding instant_of
instant_of-unix_ms t h =
    let back : unix_ms t +ℤ pos unix_epoch ≡ pos t = omega (arith, ints) in
    ap instant_from_first back ∙ rw (lt-ltb t instant_count h) refl

from_first : (z : ℤ) (t : ℕ) → instant_from_first z ≡ Some t → (z ≡ pos t) × (t < instant_count)
from_first (pos n) t e =
    let c = cond_some (ltb n instant_count) n t e in
    (ap pos c.1, omega (arith, ltb-true n instant_count c.0, c.1))
from_first (negsuc n) t e = absurd cc

pub of_instant : (ms : ℤ) (t : ℕ) → instant_of ms ≡ Some t → (unix_ms t ≡ ms) × IsInstant t
unfolding instant_of
of_instant ms t e =
    let f = from_first (ms +ℤ pos unix_epoch) t e in
    (omega (arith, ints, f.0), f.1)

none_from : (o : Option ℕ) → ((t : ℕ) → o ≡ Some t → ⊥) → o ≡ None
none_from None h = refl
none_from (Some t) h = absurd (h t refl)

-- what `Instant::new` answers
pub instant_made : (ms : ℤ) (made : Option ℕ) → (IsSome made ↔ ((neg_ℤ (pos 62167219200000) ≤ℤ ms) × (ms ≤ℤ pos 253402300799999))) → IfSome made (λ t. unix_ms t ≡ ms) → IfSome made IsInstant → made ≡ instant_of ms
instant_made ms None valid value range =
    sym (none_from (instant_of ms) (λ t e. let o = of_instant ms t e in absurd (false≢true (valid.1 (omega (arith, ints, o.0, o.1), omega (arith, ints, o.0, o.1))))))
instant_made ms (Some t) valid value range = sym (instant_of-unix_ms t range) ∙ ap instant_of value

pub FitsSigned-unix_ms : (t : ℕ) → IsInstant t → FitsSigned w64 (unix_ms t)
FitsSigned-unix_ms t h = omega (arith, ints)
