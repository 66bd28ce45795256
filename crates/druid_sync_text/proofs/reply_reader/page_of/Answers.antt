use Rattle.std.proofs.Common.{rules, arith, length}
use Rattle.serde_json.specs.View.{items_view}
use Rattle.druid_base.specs.Each.{each_of}
use Rattle.druid_base.proofs.EachLemmas.{each_of_length}
use Rattle.druid_sync_text.specs.Read.{load_at, IsPageRead}
use Rattle.druid_sync_text.specs.declared.fault.SyncFault.TheVariants.{TooMany, BadPage, Memory}
use Rattle.druid_sync_text.proofs.FormLemmas.{page_answered, list_refused, may_be_page, no_page}
use Rattle.druid_sync_text.proofs.reply_reader.page_of.Goals as goal

pub returns-then-loads-gt-MAX_PAGE : goal.returns-then-loads-gt-MAX_PAGE
returns-then-loads-gt-MAX_PAGE c =
    let loads = c.args.loads.now in
    page_answered c.args.at c.args.page c.args.of (items_view loads) _
    (list_refused (IsPageRead c.args.at c.args.page c.args.of) (each_of load_at (items_view loads)) c.fault_of_loads.result TooMany c.fault_of_loads.ensures
    (λ xs read. omega (arith, each_of_length load_at loads xs read)))

pub returns-then-not-may_be_page : goal.returns-then-not-may_be_page
returns-then-not-may_be_page c =
    let loads = c.args.loads.now in
    page_answered c.args.at c.args.page c.args.of (items_view loads) _
    (list_refused (IsPageRead c.args.at c.args.page c.args.of) (each_of load_at (items_view loads)) c.fault_of_loads-then-not-may_be_page.result BadPage c.fault_of_loads-then-not-may_be_page.ensures
    (λ xs read.
    let many = each_of_length load_at loads xs read in
    (omega (arith, many), no_page c.args.page c.args.of (length loads) xs many (search rules))))

pub returns-in-Err : goal.returns-in-Err
returns-in-Err c =
    let loads = c.args.loads.now in
    page_answered c.args.at c.args.page c.args.of (items_view loads) _
    (list_refused (IsPageRead c.args.at c.args.page c.args.of) (each_of load_at (items_view loads)) c.in-Err.fault Memory c.in-Err.ensures.fault
    (λ xs read.
    let many = each_of_length load_at loads xs read in
    (omega (arith, many), may_be_page c.args.page c.args.of (length loads) xs many (search rules))))
