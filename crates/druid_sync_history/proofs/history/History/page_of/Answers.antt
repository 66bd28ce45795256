use Rattle.std.proofs.Common.{◌≡◌, length, ap, subst, arith, sym, ◌∙◌}
use Rattle.druid_segment_descriptor.specs.Reply.{max_page, IsPageOf}
use Rattle.druid_sync_pages.specs.Pages.{page_at}
use Rattle.druid_sync_pages.proofs.SetLemmas.{is_page_of}
use Rattle.druid_sync_history.proofs.HistoryLemmas.{no_fault}
use Rattle.druid_sync_history.proofs.history.History.page_of.Goals as goal

pub unreachable-requires : goal.unreachable-requires
unreachable-requires c =
    let set = c.args.set.now in
    let there : IsPageOf c.args.page c.pages_of.result (page_at set c.args.page) =
    is_page_of set c.args.page c.pages_of.result c.requires.set.sorted c.pages_of.ensures.cut c.requires.many c.requires.set.few
    (omega (arith, c.requires.there, c.pages_of.ensures.value)) in
    let items = c.in_ok-segments.ensures in
    no_fault c.in_default.field-0
    (λ e. let many = c.in_default.ensures.too_many.0 e in absurd (omega (arith, many, ap length items, there.few)))
    c.in_default.ensures.length
    c.in_default.ensures.doubled
    (λ e. (c.in_default.ensures.bad.0 e).1 (subst (IsPageOf c.args.page c.pages_of.result) (sym items) there))
    c.in_default.ensures.memory
