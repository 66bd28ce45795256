use Rattle.std.proofs.Common.{◌≡◌, ◌∙◌, [], List, false, sym, ap, subst}
use Rattle.std.specs.List.{flat_map}
use Rattle.std.proofs.lemmas.Bool.{not-true}
use Rattle.druid_time.specs.Extent.{Extent}
use Rattle.druid_partial_scan.specs.Rows.{counted_by}
use Rattle.druid_partial_scan.specs.Scans.{Scan}
use Rattle.druid_partial_scan.specs.CodeFilters.{judge_if}
use Rattle.druid_partial_scan.proofs.RunLemmas.{none_counted}
use Rattle.druid_partial_scan.proofs.scan.Scan.passes_none.Goals as goal

pub returns-in-Some-constant_of : goal.returns-in-Some-constant_of
returns-in-Some-constant_of c = λ no.
    let scan : Scan = record { query = c.self.inside.query.now; segment = c.self.inside.segment.now; columns = c.self.inside.columns.items } in
    let P : Scan → Type 0 = λ p. (pieces : List Extent) → flat_map (counted_by p.query p.segment) pieces ≡ [] in
    let opposite : c.in-Some-constant_of.answer ≡ false = not-true _ no in
    subst P c.self.view_is (none_counted scan (λ row h. sym (c.self.invariant.filter_is row h) ∙ ap (λ f. judge_if f row) c.in-Some.is ∙ c.in-Some-constant_of.ensures row ∙ opposite))
