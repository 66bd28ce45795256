use Rattle.std.proofs.Common.{◌≡◌, ◌∙◌, List, ap, sym, subst}
use Rattle.std.specs.Prelude.{All}
use Rattle.druid_partial_scan.specs.Places.{sources_of, IsSource}
use Rattle.druid_partial_scan.specs.declared.field_sources.NumberSource.{NumberSource}
use Rattle.druid_partial_scan.proofs.PlaceLemmas.{are_sources}
use Rattle.druid_partial_scan.proofs.scan.Scan.with.Goals as goal

pub numbers_of-requires : goal.numbers_of-requires
numbers_of-requires c =
    let query = c.args.query.now in
    let fields = c.args.segment.now.fields in
    let e : c.deref.result.now ≡ sources_of query fields = c.deref.ensures.value ∙ c.in_ok-sources.ensures ∙ ap (sources_of query) c.schema.ensures.value in
    let P : List NumberSource → Type 0 = All (IsSource fields) in subst P (sym e) (are_sources query fields)
