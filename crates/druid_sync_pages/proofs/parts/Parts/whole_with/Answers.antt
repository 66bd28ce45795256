use Rattle.std.proofs.Common.{Some, subst, arith}
use Rattle.std.proofs.lemmas.List.{length-set}
use Rattle.druid_sync_pages.specs.Assembly.{Parts, AreParts, with_page}
use Rattle.druid_sync_pages.proofs.PartLemmas.{are_pages_with}
use Rattle.druid_sync_pages.proofs.WholeLemmas.{whole_few}
use Rattle.druid_sync_pages.proofs.parts.Parts.whole_with.Goals as goal

pub returns-clause-few : goal.returns-clause-few
returns-clause-few c =
    let P : Parts → Type 0 = λ p. AreParts p.pages in
    let parts = subst P c.self.view_is c.self.invariant in
    let pages = (with_page c.args.self.now c.args.page c.args.segments.now).pages in
    let are = are_pages_with c.args.self.now.pages c.args.page c.args.segments.now parts.each (c.requires.some, c.requires.few, c.requires.sorted) in
    let few = whole_few pages c.loop-place.place c.loop-place.set.items are c.loop-place.invariant in
    omega (arith, few, parts.not_many, length-set c.args.self.now.pages c.args.page (Some c.args.segments.now))
