use Rattle.std.proofs.Common.{Option, None, Some, sym, subst}
use Rattle.druid_sync_pages.specs.Assembly.{Parts, Page, Takes, no_pages, with_page}
use Rattle.druid_sync_pages.proofs.TakeLemmas.{begins}
use Rattle.druid_sync_pages.proofs.assembly.Assembly.take.Goals as goal

pub returns-in-Ok-clause-ok : goal.returns-in-Ok-clause-ok
returns-in-Ok-clause-ok c =
    let p : Page = record { at = c.args.at; page = c.args.page; of = c.args.of; segments = c.args.segments.now } in
    subst (λ (new : Option Parts). Takes c.args.self.now p None new) (sym c.in-Ok.ensures.ok) (begins c.args.self.now p c.requires c.in-Less.ensures)

pub returns-in-Err-clause-err : goal.returns-in-Err-clause-err
returns-in-Err-clause-err c =
    let p : Page = record { at = c.args.at; page = c.args.page; of = c.args.of; segments = c.args.segments.now } in
    (None, Some (with_page (no_pages p.at p.of) p.page p.segments), begins c.args.self.now p c.requires c.in-Less.ensures)
