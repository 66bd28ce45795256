use Rattle.std.proofs.Common.{◌≡◌, ◌∙◌, ℕ, List, Option, map, ap, sym, subst}
use Rattle.std.specs.Prelude.{All}
use Rattle.druid_segment_rows.specs.Rows.{nullable_texts_of}
use Rattle.druid_segment_rows.specs.Segment.{row_at}
use Rattle.druid_partial.specs.Partials.{bucket_of}
use Rattle.druid_partial_scan.specs.Rows.{value_for}
use Rattle.druid_partial_scan.specs.Places.{at_place, places_of, IsPlace}
use Rattle.druid_partial_scan.specs.Scans.{Scan, bucket_at}
use Rattle.druid_partial_scan.proofs.PlaceLemmas.{are_places, values_counted}
use Rattle.druid_partial_scan.proofs.scan.Scan.own_key.Goals as goal

pub texts_at-requires-clause-places : goal.texts_at-requires-clause-places
texts_at-requires-clause-places c =
    let query = c.self.inside.query.now in
    let fields = c.self.inside.segment.now.fields in
    let e : c.deref.result.now ≡ places_of query fields = c.deref.ensures.value ∙ c.self.invariant.places_are in
    let P : List (Option ℕ) → Type 0 = All (IsPlace fields) in subst P (sym e) (are_places query fields)

pub returns : goal.returns
returns c =
    let query = c.self.inside.query.now in
    let segment = c.self.inside.segment.now in
    let row = row_at segment c.args.row in
    let bucket : c.bucket.result ≡ bucket_of query row.time = c.bucket.ensures ∙ ap (λ (p : Scan). bucket_at p c.args.row) (sym c.self.view_is) in
    let values : nullable_texts_of c.in_ok-values.values.items ≡ map (value_for segment.fields row) query.dimensions =
    c.in_ok-values.ensures ∙ ap (map (at_place row.dimensions)) (c.deref.ensures.value ∙ c.self.invariant.places_are) ∙ values_counted query segment.fields row in
    rw (← c.self.view_is) (c.new.ensures ∙ (λ i. record { bucket = bucket i; values = values i }))
