use Rattle.std.proofs.Common.{◌≡◌, ◌∙◌, ℕ, ◌+◌, ◌-◌, List, [], ◌∷◌, ◌++◌, length, drop, Some, string_bytes, get_or, ap, sym, subst, subst₂, arith, ⊎_elim}
use Rattle.std.proofs.lemmas.List.{drop_all, drop_more, length_push}
use Rattle.druid_segment_rows.specs.Numbering.{Entry, HavePlaces}
use Rattle.druid_segment_rows.proofs.PlaceLemmas.{placed_unused, placed_again, placed_new, last_or_not, zero_or}
use Rattle.druid_segment_rows.proofs.numbering.place.Goals as goal

pub loop-entry-init : goal.loop-entry-init
loop-entry-init c = record {
  few = omega (arith, ap length c.new-values.ensures);
  places = λ texts codes h. subst (λ vs. HavePlaces texts codes c.args.entries.now vs c.args.ranks.now) (sym c.new-values.ensures) h;
}

pub place_one-requires-clause-fits : goal.place_one-requires-clause-fits
place_one-requires-clause-fits c = omega (arith, c.loop-entry.invariant.few, c.loop-entry-test.true, c.requires.fits)

pub loop-entry-preserved : goal.loop-entry-preserved
loop-entry-preserved c =
    let i = c.loop-entry.entry-index in
    let e : Entry = c.entry-item.result in
    let left = drop (i + 1) c.args.entries.now in
    let text = string_bytes e.0 in
    let ranks = c.loop-entry.ranks in
    let values : List (List ℕ) = c.loop-entry.values in
    let few = c.loop-entry.invariant.few in
    let one = c.in_ok-place_one.ensures in
    let is : c.as_str.result.now ≡ text = c.as_str.ensures.value in
    let split : drop i c.args.entries.now ≡ e ∷ left = drop_more c.args.entries.now i e c.loop-entry-test.true ∙ ap (λ x. x ∷ left) (sym c.entry-item.is) in
    let before : (texts : List (List ℕ)) (codes : List ℕ) → HavePlaces texts codes c.args.entries.now [] c.args.ranks.now → HavePlaces texts codes (e ∷ left) values ranks = λ texts codes h.
    subst (λ es. HavePlaces texts codes es values ranks) split (c.loop-entry.invariant.places texts codes h) in
    ⊎_elim (λ zero.
    let same = one.skips zero in
    record {
      few = omega (arith, few, ap length same.0);
      places = λ texts codes h.
          subst₂ (λ vs rs. HavePlaces texts codes left vs rs) (sym same.0) (sym same.1) (placed_unused texts codes e left values ranks (before texts codes h) zero);
    }) (λ some. ⊎_elim (λ last.
    let same = one.again some (last ∙ ap Some (sym is)) in
    record {
      few = omega (arith, few, ap length same.0);
      places = λ texts codes h.
          subst₂ (λ vs rs. HavePlaces texts codes left vs rs) (sym same.0) (sym same.1) (placed_again texts codes e left values ranks (before texts codes h) some last);
    }) (λ other.
    let new = one.takes some (λ last. other (last ∙ ap Some is)) in
    record {
      few = omega (arith, few, ap length new.0, length_push values c.as_str.result.now);
      places = λ texts codes h.
          subst₂ (λ vs rs. HavePlaces texts codes left vs rs) (ap (λ t. values ++ t ∷ []) (sym is) ∙ sym new.0) (sym new.1) (placed_new texts codes e left values ranks (before texts codes h) some other);
    }) (last_or_not values text)) (zero_or (get_or ranks (e.1 - 1) 0))

pub returns-clause-places : goal.returns-clause-places
returns-clause-places c = λ texts codes h.
    let none : drop c.loop-entry.entry-index c.args.entries.now ≡ [] = drop_all c.loop-entry.entry-index c.args.entries.now (omega (arith, c.loop-entry-test.false)) in
    subst (λ es. HavePlaces texts codes es c.loop-entry.values c.loop-entry.ranks) none (c.loop-entry.invariant.places texts codes h)
