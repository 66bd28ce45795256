use Rattle.std.proofs.Common.{◌≡◌, ◌∙◌, ◌+◌, ℕ, IfSome, take, sym, ap, subst, arith, List}
use Rattle.std.proofs.lemmas.List.{take_all}
use Rattle.druid_partial_scan.specs.CodeFilters.{holds, all_hold, any_holds}
use Rattle.druid_partial_scan.specs.declared.code_filter.CodeFilter.{CodeFilter}
use Rattle.druid_partial_scan.proofs.CodeFilterLemmas.{all_hold_false, any_holds_true, all_hold_same, any_holds_same, always_of, all_constant_is, any_constant_is}
use Rattle.druid_partial_scan.proofs.code_filter.+constant_of.Goals.{all_constant-in-Some-true, all_constant-in-None, any_constant-in-Some-false, any_constant-in-None}
use Rattle.druid_partial_scan.proofs.code_filter.+constant_of.Goals as goal

pub all_constant-returns-in-Some-false : goal.all_constant-returns-in-Some-false
all_constant-returns-in-Some-false t c = λ row.
    all_hold_false c.args.code_filters.now c.loop-code_filter.code_filter-index c.code_filter-item.result row c.loop-code_filter-test.true
    (ap (λ u. holds u row) (sym c.code_filter-item.is) ∙ c.in-Some-false.ensures row ∙ c.in-Some-false.field-0-test)

pub all_constant-loop-code_filter-preserved : goal.all_constant-loop-code_filter-preserved
all_constant-loop-code_filter-preserved t c = elim c.match-constant_of.branch [
  | all_constant-in-Some-true w ↦
      rw w.constant-is (always_of (all_hold (take (c.loop-code_filter.code_filter-index + 1) c.args.code_filters.now))
      (all_hold (take c.loop-code_filter.code_filter-index c.args.code_filters.now)) c.loop-code_filter.constant
      (λ row. all_hold_same c.args.code_filters.now c.loop-code_filter.code_filter-index c.code_filter-item.result row c.loop-code_filter-test.true
      (ap (λ u. holds u row) (sym c.code_filter-item.is) ∙ w.in-Some-true.ensures row ∙ w.in-Some-true.field-0-test))
      c.loop-code_filter.invariant)
  | all_constant-in-None w ↦ rw w.constant-is tt
]

pub all_constant-returns : goal.all_constant-returns
all_constant-returns t c =
    let all = take_all c.loop-code_filter.code_filter-index c.args.code_filters.now (omega (arith, c.loop-code_filter-test.false)) in
    let P : List CodeFilter → Type 0 = λ us. IfSome c.loop-code_filter.constant (λ answer. (row : ℕ) → all_hold us row ≡ answer) in
    subst P all c.loop-code_filter.invariant

pub any_constant-returns-in-Some-true : goal.any_constant-returns-in-Some-true
any_constant-returns-in-Some-true t c = λ row.
    any_holds_true c.args.code_filters.now c.loop-code_filter.code_filter-index c.code_filter-item.result row c.loop-code_filter-test.true
    (ap (λ u. holds u row) (sym c.code_filter-item.is) ∙ c.in-Some-true.ensures row ∙ c.in-Some-true.field-0-test)

pub any_constant-loop-code_filter-preserved : goal.any_constant-loop-code_filter-preserved
any_constant-loop-code_filter-preserved t c = elim c.match-constant_of.branch [
  | any_constant-in-Some-false w ↦
      rw w.constant-is (always_of (any_holds (take (c.loop-code_filter.code_filter-index + 1) c.args.code_filters.now))
      (any_holds (take c.loop-code_filter.code_filter-index c.args.code_filters.now)) c.loop-code_filter.constant
      (λ row. any_holds_same c.args.code_filters.now c.loop-code_filter.code_filter-index c.code_filter-item.result row c.loop-code_filter-test.true
      (ap (λ u. holds u row) (sym c.code_filter-item.is) ∙ w.in-Some-false.ensures row ∙ w.in-Some-false.field-0-test))
      c.loop-code_filter.invariant)
  | any_constant-in-None w ↦ rw w.constant-is tt
]

pub any_constant-returns : goal.any_constant-returns
any_constant-returns t c =
    let all = take_all c.loop-code_filter.code_filter-index c.args.code_filters.now (omega (arith, c.loop-code_filter-test.false)) in
    let P : List CodeFilter → Type 0 = λ us. IfSome c.loop-code_filter.constant (λ answer. (row : ℕ) → any_holds us row ≡ answer) in
    subst P all c.loop-code_filter.invariant

pub constant_of-returns-in-All : goal.constant_of-returns-in-All
constant_of-returns-in-All t c = all_constant_is c.args.code_filter.now c.in-All.code_filters c.deref-in-All.result.now c.all_constant.result c.in-All.is c.deref-in-All.ensures.value c.all_constant.ensures

pub constant_of-returns-in-Any : goal.constant_of-returns-in-Any
constant_of-returns-in-Any t c = any_constant_is c.args.code_filter.now c.in-Any.code_filters c.deref-in-Any.result.now c.any_constant.result c.in-Any.is c.deref-in-Any.ensures.value c.any_constant.ensures
