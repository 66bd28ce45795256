use Rattle.std.proofs.Common.{◌≡◌, Option, Some, Ok, sym, subst, ◌∙◌}
use Rattle.std.specs.declared.cmp.Ordering.TheVariants.{Equal}
use Rattle.druid_sync_pages.specs.Assembly.{Parts}
use Rattle.druid_sync_pages.specs.PageSizes.{Compares, FitsAs}
use Rattle.druid_sync_pages.specs.declared.parts.Fit.{Fit}
use Rattle.druid_sync_pages.proofs.TakeLemmas.{tied, lacking_memory, last_memory}
use Rattle.druid_sync_pages.proofs.assembly.Assembly.add.Goals as goal

pub returns-then-is_err-clause-err : goal.returns-then-is_err-clause-err
returns-then-is_err-clause-err c =
    let parts = c.in-Some.parts in
    let is : c.args.self.now ≡ Some parts = sym c.self.view_is ∙ c.in-Some.is in
    let at = tied parts.at c.args.at (subst (λ (o : Option Parts). Compares o c.args.at Equal) is c.requires.same) in
    lacking_memory c.args.self.now parts (record { at = c.args.at; page = c.args.page; of = c.args.of; segments = c.args.segments.now }) is at (subst (λ (f : Fit). FitsAs parts (record { at = parts.at; page = c.args.page; of = c.args.of; segments = c.args.segments.now }) (Ok f)) c.in-Ok-Lacking.field-0-is c.in-Ok-Lacking.ensures)

pub returns-in_default-whole_with-clause-err : goal.returns-in_default-whole_with-clause-err
returns-in_default-whole_with-clause-err c =
    let parts = c.in-Some.parts in
    let is : c.args.self.now ≡ Some parts = sym c.self.view_is ∙ c.in-Some.is in
    let at = tied parts.at c.args.at (subst (λ (o : Option Parts). Compares o c.args.at Equal) is c.requires.same) in
    last_memory c.args.self.now parts (record { at = c.args.at; page = c.args.page; of = c.args.of; segments = c.args.segments.now }) is at (subst (λ (f : Fit). FitsAs parts (record { at = parts.at; page = c.args.page; of = c.args.of; segments = c.args.segments.now }) (Ok f)) c.in-Ok-Last.field-0-is c.in-Ok-Last.ensures)
