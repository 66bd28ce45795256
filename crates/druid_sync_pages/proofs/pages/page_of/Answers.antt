use Rattle.std.proofs.Common.{◌≡◌, ◌∙◌, ◌*◌, Vec, Global}
use Rattle.std.proofs.lemmas.Result.{IfOk-weaker}
use Rattle.std.specs.List.{slice_range}
use Rattle.druid_segment_descriptor.specs.Described.{Described}
use Rattle.druid_sync_pages.specs.Pages.{page_at}
use Rattle.druid_sync_pages.proofs.CutLemmas.{cut_is}
use Rattle.druid_sync_pages.proofs.pages.page_of.Goals as goal

pub returns : goal.returns
returns c =
    let set = c.args.set.now in
    let e = cut_is 20000 set (c.args.page * 20000) c.min-start.result c.min-end.result c.min-start.ensures c.min-end.ensures in
    let P : Vec Described Global → Type 0 = λ segments. segments.items ≡ slice_range set c.min-start.result c.min-end.result in
    let Q : Vec Described Global → Type 0 = λ segments. segments.items ≡ page_at set c.args.page in
    IfOk-weaker c.copies_of.result P Q (λ x h. h ∙ e) c.copies_of.ensures
