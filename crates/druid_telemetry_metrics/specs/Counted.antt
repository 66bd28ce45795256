-- What a writer counts.
use Rattle.std.specs.Prelude.{ℕ, Result, Ok, Err}
use Rattle.druid_telemetry_metrics.specs.Text.{with_more}

-- how many bytes were taken, after a write more
abbrev pub counted_after : {E : Type 0} → ℕ → Result ℕ E → ℕ
counted_after n (Ok count) = with_more n count
counted_after n (Err error) = n
