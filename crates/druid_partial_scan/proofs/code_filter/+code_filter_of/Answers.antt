use Rattle.std.proofs.Common.{◌≡◌, ◌∙◌, ◌<◌, ℕ, length, ap, arith, not}
use Rattle.std.proofs.lemmas.Result.{IfOk-weaker}
use Rattle.std.proofs.lemmas.List.{take_all}
use Rattle.druid_filter.specs.Filters.{passes, says, all_pass, any_passes, each_says}
use Rattle.druid_partial_scan.specs.CodeFilters.{holds, value_of}
use Rattle.druid_partial_scan.specs.declared.code_filter.CodeFilter.{CodeFilter}
use Rattle.druid_partial_scan.proofs.CodeFilterLemmas.{all_more, any_more, not_passes}
use Rattle.druid_partial_scan.proofs.code_filter.+code_filter_of.Goals as goal

pub code_filters_of-loop-filter-preserved : goal.code_filters_of-loop-filter-preserved
code_filters_of-loop-filter-preserved t c = record {
  all = λ row h.
      all_more (value_of c.args.segment.now row) row c.args.filters.now c.loop-filter.filter-index c.filter-item.result c.loop-filter.code_filters.items
      c.push.new.self.items c.in_ok-code_filter_of.field-0 (omega arith) c.filter-item.is c.in_ok-push.ensures.items (c.loop-filter.invariant.all row h) (c.in_ok-code_filter_of.ensures row h);
  any = λ row h.
      any_more (value_of c.args.segment.now row) row c.args.filters.now c.loop-filter.filter-index c.filter-item.result c.loop-filter.code_filters.items
      c.push.new.self.items c.in_ok-code_filter_of.field-0 (omega arith) c.filter-item.is c.in_ok-push.ensures.items (c.loop-filter.invariant.any row h) (c.in_ok-code_filter_of.ensures row h);
}

pub code_filters_of-returns-clause-all : goal.code_filters_of-returns-clause-all
code_filters_of-returns-clause-all t c = λ row h.
    c.loop-filter.invariant.all row h
    ∙ ap (λ l. all_pass (value_of c.args.segment.now row) (each_says l)) (take_all c.loop-filter.filter-index c.args.filters.now (omega arith))

pub code_filters_of-returns-clause-any : goal.code_filters_of-returns-clause-any
code_filters_of-returns-clause-any t c = λ row h.
    c.loop-filter.invariant.any row h
    ∙ ap (λ l. any_passes (value_of c.args.segment.now row) (each_says l)) (take_all c.loop-filter.filter-index c.args.filters.now (omega arith))

pub code_filter_of-returns-in_ok-code_filter_of-in-Not : goal.code_filter_of-returns-in_ok-code_filter_of-in-Not
code_filter_of-returns-in_ok-code_filter_of-in-Not t c =
    let segment = c.args.segment.now in
    let P : CodeFilter → Type 0 = λ negation. (row : ℕ) → holds negation row ≡ not (holds c.in_ok-code_filter_of-in-Not.field-0 row) in
    let Q : CodeFilter → Type 0 = λ negation. (row : ℕ) → row < length segment.rows → holds negation row ≡ passes (value_of segment row) (says c.args.filter.now) in
    IfOk-weaker c.negation_of.result P Q
    (λ negation same row h. same row ∙ ap not (c.in_ok-code_filter_of-in-Not.ensures row h ∙ ap (λ f. passes (value_of segment row) (says f)) c.deref-in-Not.ensures) ∙ not_passes (value_of segment row) c.args.filter.now c.in-Not.filter c.in-Not.is)
    c.negation_of.ensures
