-- What is logged once.
use Rattle.std.specs.Prelude.{ℕ, ◌+◌, ◌-◌, ◌^◌, ◌==◌, min, Bool, true, false, not, Option, Some, None, option_map, if◌then◌else◌}
use Rattle.druid_segment_descriptor.specs.Mark.{Point}
use Rattle.druid_telemetry_log.specs.declared.outage.Report.{Report}
use Rattle.druid_telemetry_log.specs.declared.outage.Report.TheVariants.{Nothing, Begins, Ends}

-- how many turns have failed since the last that did not, after one turn more; no more than the greatest number of 64 bits
abbrev pub failures_after : ℕ → Bool → ℕ
failures_after n true = min (n + 1) (2 ^ 64 - 1)
failures_after n false = 0

-- a turn that fails is logged where the one before had not; one that does not, where the one before had
abbrev pub report_of : ℕ → Bool → Report
report_of n true = if n == 0 then Begins else Nothing
report_of n false = if n == 0 then Nothing else Ends n

abbrev pub incarnation_of : Option Point → Option ℕ
incarnation_of mark = option_map (λ (m : Point). m.incarnation) mark

-- whether a mark below the held one is logged: it is there, and that of the incarnation was not logged last
abbrev pub is_news : Option ℕ → Option ℕ → Bool
is_news before None = false
is_news None (Some now) = true
is_news (Some before) (Some now) = not (now == before)
