use Rattle.std.proofs.Common.{◌≡◌, ◌∙◌, ℕ, List, Option, Vec, Global, ap, sym, subst}
use Rattle.std.specs.Prelude.{All}
use Rattle.druid_partial_scan.specs.Places.{places_of, IsPlace}
use Rattle.druid_partial_scan.specs.Cells.{Column}
use Rattle.druid_partial_scan.specs.Slices.{texts_in, AreCoded}
use Rattle.druid_partial_scan.proofs.PlaceLemmas.{are_places}
use Rattle.druid_base.proofs.ClauseLemmas.{if_some}
use Rattle.druid_partial_scan.proofs.SliceLemmas.{columns_coded}
use Rattle.druid_partial_scan.proofs.scan.Scan.over.Goals as goal

pub coded_columns-requires-clause-places : goal.coded_columns-requires-clause-places
coded_columns-requires-clause-places c =
    let query = c.args.query.now in
    let fields = c.args.segment.now.fields in
    let e : c.deref.result.now ≡ places_of query fields = c.deref.ensures.value ∙ c.in_ok-places.ensures ∙ ap (places_of query) c.schema.ensures.value in
    let P : List (Option ℕ) → Type 0 = All (IsPlace fields) in subst P (sym e) (are_places query fields)

pub with-requires-clause-columns : goal.with-requires-clause-columns
with-requires-clause-columns c =
    let query = c.args.query.now in
    let fields = c.args.segment.now.fields in
    let texts = texts_in c.args.lists.now in
    let e : c.deref.result.now ≡ places_of query fields = c.deref.ensures.value ∙ c.in_ok-places.ensures ∙ ap (places_of query) c.schema.ensures.value in
    let P : List (Option ℕ) → Type 0 = λ places. AreCoded c.args.segment.now texts places c.in-Some.columns.items in
    let Q : Vec Column Global → Type 0 = λ columns. AreCoded c.args.segment.now texts c.deref.result.now columns.items in
    columns_coded c.args.segment.now texts (places_of query fields) c.in-Some.columns.items c.requires.rising
    (subst P e (if_some Q c.in_ok-columns.field-0 c.in-Some.columns c.in-Some.is c.in_ok-columns.ensures))
