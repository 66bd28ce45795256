use Rattle.std.proofs.Common.{◌≡◌, ◌∙◌, ℕ, List, Option, ap, sym, subst}
use Rattle.std.specs.Prelude.{All}
use Rattle.druid_partial_scan.specs.Places.{places_of, IsPlace}
use Rattle.druid_partial_scan.proofs.PlaceLemmas.{are_places}
use Rattle.druid_partial_scan.proofs.scan.Scan.new.Goals as goal

pub columns_of-requires : goal.columns_of-requires
columns_of-requires c =
    let query = c.args.query.now in
    let fields = c.args.segment.now.fields in
    let e : c.deref.result.now ≡ places_of query fields = c.deref.ensures.value ∙ c.in_ok-places.ensures ∙ ap (places_of query) c.schema.ensures.value in
    let P : List (Option ℕ) → Type 0 = All (IsPlace fields) in subst P (sym e) (are_places query fields)
