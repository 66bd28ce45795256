-- Granularities: how long the buckets are that instants fall into.
use Rattle.std.specs.Prelude.{◌≡◌, ℕ, ◌+◌, ◌-◌, ◌*◌, ◌%◌, ◌≤◌, ◌⊎◌, Option, Some, None, option_map}
use Rattle.druid_time.specs.Instant.{unix_epoch}
use Rattle.druid_time.specs.declared.granularity.Granularity.{Granularity}
use Rattle.druid_time.specs.declared.granularity.Granularity.TheVariants.{All, Second, Minute, Hour, Day}

-- the milliseconds of a bucket; with `All` there is one bucket, which has no length
abbrev pub bucket_length : Granularity → Option ℕ
bucket_length All = None
bucket_length Second = Some 1_000
bucket_length Minute = Some 60_000
bucket_length Hour = Some 3_600_000
bucket_length Day = Some 86_400_000

-- b is whole lengths away from 1970-01-01T00:00:00.000Z, after it or before it
abbrev pub IsMultiple : ℕ → ℕ → Type 0
IsMultiple step b = (k : ℕ) × ((b ≡ unix_epoch + k * step) ⊎ (b + k * step ≡ unix_epoch))

-- b starts the bucket that t falls into: the greatest multiple of the length that is not above t
pub record StartsBucket (step t b : ℕ) : Type 0 where
  pub multiple : IsMultiple step b
  pub not_above : b ≤ t
  pub greatest : (c : ℕ) → IsMultiple step c → c ≤ t → c ≤ b

-- the instant without what goes past the last whole length. 1970 begins whole lengths after the year 0
abbrev pub bucket_at : Granularity → ℕ → Option ℕ
bucket_at granularity t = option_map (λ step. t - t % step) (bucket_length granularity)
