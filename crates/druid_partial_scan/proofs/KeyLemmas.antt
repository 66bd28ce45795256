-- Borrowed values are compared by their bytes.
use Rattle.std.proofs.Common.{Bor, map, option_map, ◌≡◌, ◌∙◌, ℕ, List, [], ◌∷◌, Option, Some, None, refl, ap, sym}
use Rattle.std.specs.declared.cmp.Ordering.{Ordering}
use Rattle.std.specs.declared.cmp.Ordering.TheVariants.{Equal}
use Rattle.std.specs.Ordering.{nat_cmp, ordering_then}
use Rattle.std.specs.Option.{option_cmp}
use Rattle.std.specs.Cmp.Lexicographic.{slice_cmp}
use Rattle.druid_partial.specs.Groups.{value_cmp, key_cmp}

abbrev pub borrowed : List (Option (Bor (List ℕ))) → List (Option (List ℕ))
borrowed values = map (option_map (λ text. text.now)) values

pub borrowed_by_bytes : (xs ys : List (Option (Bor (List ℕ)))) → slice_cmp (option_cmp (λ (a b : Bor (List ℕ)). slice_cmp nat_cmp a.now b.now)) xs ys ≡ slice_cmp value_cmp (borrowed xs) (borrowed ys)
borrowed_by_bytes [] [] = refl
borrowed_by_bytes [] (y ∷ ys) = refl
borrowed_by_bytes (x ∷ xs) [] = refl
borrowed_by_bytes (None ∷ xs) (None ∷ ys) = borrowed_by_bytes xs ys
borrowed_by_bytes (None ∷ xs) (Some y ∷ ys) = refl
borrowed_by_bytes (Some x ∷ xs) (None ∷ ys) = refl
borrowed_by_bytes (Some x ∷ xs) (Some y ∷ ys) = ap (ordering_then (slice_cmp nat_cmp x.now y.now)) (borrowed_by_bytes xs ys)

pub borrowed_tied : (s t : ℕ) (xs ys : List (Option (Bor (List ℕ)))) (p o : Ordering) → p ≡ nat_cmp s t → p ≡ Equal → o ≡ slice_cmp (option_cmp (λ (a b : Bor (List ℕ)). slice_cmp nat_cmp a.now b.now)) xs ys → o ≡ key_cmp (record { bucket = s; values = borrowed xs }) (record { bucket = t; values = borrowed ys })
borrowed_tied s t xs ys p o buckets tied e =
    e ∙ borrowed_by_bytes xs ys ∙ ap (λ q. ordering_then q (slice_cmp value_cmp (borrowed xs) (borrowed ys))) (sym tied ∙ buckets)
