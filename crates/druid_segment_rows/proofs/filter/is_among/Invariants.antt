use Rattle.std.proofs.Common.{◌≡◌, drop, option_map}
use Rattle.std.specs.List.{list_any}
use Rattle.druid_filter.specs.Filters.{same_value}
use Rattle.druid_segment_rows.specs.Rows.{nullable_texts_of}
use Rattle.druid_segment_rows.proofs.filter.is_among.Given as goal

abbrev pub invariant-loop-one : goal.invariant-loop-one
invariant-loop-one l =
    list_any (same_value (option_map (λ s. s.now) l.value)) (nullable_texts_of (drop l.one-index l.wanted))
    ≡ list_any (same_value (option_map (λ s. s.now) l.value)) (nullable_texts_of l.wanted)
