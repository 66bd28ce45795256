use Rattle.std.proofs.Common.{Err, length, ap, subst, arith, sym, ◌∙◌}
use Rattle.druid_segment_descriptor.specs.Reply.{IsPageOf}
use Rattle.druid_sync_pages.specs.Pages.{page_at}
use Rattle.druid_sync_pages.proofs.SetLemmas.{is_page_of}
use Rattle.druid_inventory.proofs.replies.page_of_set.Goals as goal

pub unreachable-requires : goal.unreachable-requires
unreachable-requires c =
    let set = c.args.set.now in
    let there : IsPageOf c.args.page c.pages_of.result (page_at set c.args.page) =
    is_page_of set c.args.page c.pages_of.result c.requires.set.sorted c.pages_of.ensures.cut c.requires.many c.requires.set.few
    (omega (arith, c.requires.there, c.pages_of.ensures.value)) in
    let many = c.page.ensures.too_many.0 (c.in-Err-TooMany.is ∙ ap Err c.in-Err-TooMany.field-0-is) in
    absurd (omega (arith, many, ap length c.in_ok-segments.ensures, there.few))

pub unreachable-requires-in-Err-BadPage : goal.unreachable-requires-in-Err-BadPage
unreachable-requires-in-Err-BadPage c =
    let set = c.args.set.now in
    let there : IsPageOf c.args.page c.pages_of.result (page_at set c.args.page) =
    is_page_of set c.args.page c.pages_of.result c.requires.set.sorted c.pages_of.ensures.cut c.requires.many c.requires.set.few
    (omega (arith, c.requires.there, c.pages_of.ensures.value)) in
    let bad = c.page.ensures.bad.0 (c.in-Err-BadPage.is ∙ ap Err c.in-Err-BadPage.field-0-is) in
    bad.1 (subst (IsPageOf c.args.page c.pages_of.result) (sym c.in_ok-segments.ensures) there)
