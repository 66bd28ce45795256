-- Where buckets start.
use Rattle.std.proofs.Common.{◌≡◌, ℕ, ◌+◌, ◌-◌, ◌*◌, ◌/◌, ◌%◌, ◌<◌, ◌≤◌, inl, inr, Some, arith, refl, sym, subst, ap, ◌∙◌}
use Rattle.std.proofs.Math.Nat.{add-mul, mul-sub, mul_comm}
use Rattle.std.proofs.lemmas.Bool.{cases_lt}
use Rattle.std.proofs.lemmas.Nat.{div-add-mod', le-div, mul-le}
use Rattle.std.proofs.lemmas.Option.{same_Some}
use Rattle.druid_time.specs.Instant.{unix_epoch}
use Rattle.druid_time.specs.Granularity.{bucket_length, IsMultiple, StartsBucket, bucket_at}
use Rattle.druid_time.specs.declared.granularity.Granularity.{Granularity}
use Rattle.druid_time.specs.declared.granularity.Granularity.TheVariants.{All, Second, Minute, Hour, Day}

sub-mul : (m n k : ℕ) → (m - n) * k ≡ m * k - n * k
sub-mul m n k = mul_comm (m - n) k ∙ mul-sub k m n ∙ ap (λ x. x - k * n) (mul_comm k m) ∙ ap (λ x. m * k - x) (mul_comm k n)

-- a multiple counted from 1970 is one counted from the year 0
from_zero : (q step c : ℕ) → q * step ≡ unix_epoch → IsMultiple step c → (m : ℕ) × (c ≡ m * step)
from_zero q step c whole (k, inl e) = (q + k, e ∙ ap (λ x. x + k * step) (sym whole) ∙ sym (add-mul q k step))
from_zero q step c whole (k, inr e) = (q - k, let s = sub-mul q k step in omega (arith, s, e, whole))

-- and the other way round
from_1970 : (q step m : ℕ) → q * step ≡ unix_epoch → IsMultiple step (m * step)
from_1970 q step m whole = elim (cases_lt m q) [
  | inl below ↦ (q - m, inr (let s = sub-mul q m step in let t : m * step ≤ q * step = mul-le m step q step (omega arith) (omega arith) in omega (arith, s, t, whole)))
  | inr above ↦ (m - q, inl (let s = sub-mul m q step in let t : q * step ≤ m * step = mul-le q step m step above (omega arith) in omega (arith, s, t, whole)))
]

starts : (q step t : ℕ) → 0 < step → q * step ≡ unix_epoch → StartsBucket step t (t - t % step)
starts q step t some whole =
    let parts : t / step * step + t % step ≡ t = div-add-mod' t step in
    let start : t - t % step ≡ t / step * step = omega (arith, parts) in
    record {
      multiple = subst (λ b. IsMultiple step b) (sym start) (from_1970 q step (t / step) whole);
      not_above = omega arith;
      greatest = λ c multiple below.
          let m = from_zero q step c whole multiple in
          let up : m.0 ≤ t / step = le-div m.0 t step some (omega (arith, m.1, below)) in
          let le : m.0 * step ≤ t / step * step = mul-le m.0 step (t / step) step up (omega arith) in
          omega (arith, m.1, le, start);
    }

of_length : (q n step t b : ℕ) → 0 < n → q * n ≡ unix_epoch → Some n ≡ Some step → Some (t - t % n) ≡ Some b → StartsBucket step t b
of_length q n step t b some whole has at = subst (λ s. StartsBucket s t b) (same_Some n step has) (subst (λ s. StartsBucket n t s) (same_Some (t - t % n) b at) (starts q n t some whole))

pub bucket_starts : (granularity : Granularity) (step t b : ℕ) → bucket_length granularity ≡ Some step → bucket_at granularity t ≡ Some b → StartsBucket step t b
bucket_starts All step t b has at = absurd (cc)
bucket_starts Second step t b has at = of_length 62_167_219_200 1_000 step t b (omega arith) refl has at
bucket_starts Minute step t b has at = of_length 1_036_120_320 60_000 step t b (omega arith) refl has at
bucket_starts Hour step t b has at = of_length 17_268_672 3_600_000 step t b (omega arith) refl has at
bucket_starts Day step t b has at = of_length 719_528 86_400_000 step t b (omega arith) refl has at
