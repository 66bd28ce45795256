use Rattle.std.proofs.Common.{◌∙◌, length}
use Rattle.std.proofs.lemmas.Result.{IfOk-weaker}
use Rattle.druid_segment_descriptor.specs.declared.reply.Body.TheVariants.{Page}
use Rattle.druid_sync_pages.specs.Pages.{page_at, pages_in}
use Rattle.druid_inventory.proofs.answer.page_of.Goals as goal

pub returns : goal.returns
returns c =
    IfOk-weaker c.page_of_set.result _ _
    (λ reply e. e ∙ (λ i. Page (c.synced_mark.ensures.value i) c.args.page (pages_in (length (c.set.ensures.value i))) (page_at (c.set.ensures.value i) c.args.page)))
    c.page_of_set.ensures
