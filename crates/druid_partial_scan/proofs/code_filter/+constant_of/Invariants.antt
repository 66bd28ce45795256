use Rattle.std.proofs.Common.{◌≡◌, ℕ, IfSome, take}
use Rattle.druid_partial_scan.specs.CodeFilters.{all_hold, any_holds}
use Rattle.druid_partial_scan.proofs.code_filter.+constant_of.Given as goal

abbrev pub invariant-all_constant-loop-code_filter : goal.invariant-all_constant-loop-code_filter
invariant-all_constant-loop-code_filter l = IfSome l.constant (λ answer. (row : ℕ) → all_hold (take l.code_filter-index l.code_filters) row ≡ answer)

abbrev pub invariant-any_constant-loop-code_filter : goal.invariant-any_constant-loop-code_filter
invariant-any_constant-loop-code_filter l = IfSome l.constant (λ answer. (row : ℕ) → any_holds (take l.code_filter-index l.code_filters) row ≡ answer)
