-- Equal lists of segments, and copies of them.
use Rattle.std.proofs.Common.{◌≡◌, ◌++◌, ◌∷◌, [], List, refl, ap, ◌∙◌}
use Rattle.std.specs.List.{AllZip, AppendsClones}
use Rattle.druid_segment_descriptor.specs.Described.{Described}

copies_same : (xs ys : List Described) → AllZip (λ x y. y ≡ x) xs ys → ys ≡ xs
copies_same [] [] h = refl
copies_same [] (y ∷ ys) h = absurd h
copies_same (x ∷ xs) [] h = absurd h
copies_same (x ∷ xs) (y ∷ ys) h = λ i. h.0 i ∷ copies_same xs ys h.1 i

-- copies of segments are put to others
pub appended : (old new more : List Described) → AppendsClones (λ x y. y ≡ x) old new more → new ≡ old ++ more
appended old new more h = h.1 ∙ ap (λ l. old ++ l) (copies_same more h.0 h.2)
