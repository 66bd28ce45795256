-- The segments of all pages.
use Rattle.std.proofs.Common.{◌≡◌, ◌+◌, ◌*◌, ◌≤◌, ℕ, zero, suc, List, [], ◌∷◌, ◌++◌, length, length-append, take, set, Option, Some, None, option_map, refl, sym, ap, ◌∙◌, inl, inr, ⊎_elim, arith, append_assoc, add-one, suc-mul}
use Rattle.std.specs.List.{slice_get}
use Rattle.std.proofs.lemmas.Bool.{cases_eq}
use Rattle.std.proofs.lemmas.Option.{same_Some, none-some}
use Rattle.std.proofs.lemmas.List.{append-nil}
use Rattle.druid_base.proofs.ListLemmas.{slice_get-set}
use Rattle.druid_segment_descriptor.specs.Described.{Described}
use Rattle.druid_segment_descriptor.specs.Reply.{max_page}
use Rattle.druid_sync_pages.specs.Assembly.{ArePages, whole_of}
use Rattle.druid_sync_pages.specs.PageSizes.{AllThere, OthersThere}
use Rattle.std.proofs.lemmas.List.{length-set}
use Rattle.druid_sync_pages.proofs.PartLemmas.{get_set, get_set_apart}

abbrev Pages : Type 0
Pages = List (Option (List Described))

abbrev pub with_front : List Described → Option (List Described) → Option (List Described)
with_front s rest = option_map (λ r. s ++ r) rest

more_after : (s : List Described) (rest more : Option (List Described)) (xs ys : List Described) → with_front s rest ≡ Some xs
    → ((r : List Described) → rest ≡ Some r → more ≡ Some (r ++ ys)) → with_front s more ≡ Some (xs ++ ys)
more_after s None more xs ys whole next = absurd (none-some xs whole)
more_after s (Some r) more xs ys whole next =
    ap (with_front s) (next r refl) ∙ ap Some (sym (append_assoc s r ys) ∙ ap (λ zs. zs ++ ys) (same_Some (s ++ r) xs whole))

more_in : (pages : Pages) (i : ℕ) (xs ys : List Described) → whole_of (take i pages) ≡ Some xs → slice_get pages i ≡ Some (Some ys)
    → whole_of (take (suc i) pages) ≡ Some (xs ++ ys)
more_in [] i xs ys whole next = absurd (none-some (Some ys) next)
more_in (p ∷ pages) zero xs ys whole next =
    ap (λ q. whole_of (q ∷ [])) (same_Some p (Some ys) next) ∙ ap Some (append-nil ys ∙ ap (λ zs. zs ++ ys) (same_Some [] xs whole))
more_in (None ∷ pages) (suc i) xs ys whole next = absurd (none-some xs whole)
more_in (Some s ∷ pages) (suc i) xs ys whole next =
    more_after s (whole_of (take i pages)) (whole_of (take (suc i) pages)) xs ys whole (λ r e. more_in pages i r ys e next)

-- one page more
pub whole_of_more : (pages : Pages) (i : ℕ) (xs ys : List Described) → whole_of (take i pages) ≡ Some xs → slice_get pages i ≡ Some (Some ys)
    → whole_of (take (i + 1) pages) ≡ Some (xs ++ ys)
whole_of_more pages i xs ys whole next = ap (λ n. whole_of (take n pages)) (add-one i) ∙ more_in pages i xs ys whole next

-- where one has not come there is no whole
pub whole_lacks : (pages : Pages) (i : ℕ) → slice_get pages i ≡ Some None → whole_of pages ≡ None
whole_lacks [] i lacks = absurd (none-some None lacks)
whole_lacks (p ∷ pages) zero lacks = ap (λ q. whole_of (q ∷ pages)) (same_Some p None lacks)
whole_lacks (None ∷ pages) (suc i) lacks = refl
whole_lacks (Some s ∷ pages) (suc i) lacks = ap (with_front s) (whole_lacks pages i lacks)

-- where all have come there is one
pub whole_there : (pages : Pages) → AllThere pages → (xs : List Described) × (whole_of pages ≡ Some xs)
whole_there [] all = ([], refl)
whole_there (None ∷ pages) all = absurd (all 0 (omega arith) refl)
whole_there (Some s ∷ pages) all =
    let rest = whole_there pages (λ place within. all (suc place) (omega (arith, within))) in
    (s ++ rest.0, ap (with_front s) rest.1)

-- all others have come, and so has this one
pub all_with : (pages : Pages) (page : ℕ) (segments : List Described) → OthersThere pages page → AllThere (set pages page (Some segments))
all_with pages page segments others place within lacks =
    elim (cases_eq place page) [
      | inl here ↦
          let own = get_set pages page (Some segments) (omega (arith, within, here, length-set pages page (Some segments))) in
          none-some segments (same_Some None (Some segments) (sym lacks ∙ ap (slice_get (set pages page (Some segments))) here ∙ own))
      | inr apart ↦
          ⊎_elim (λ before. others place (omega (arith, within, length-set pages page (Some segments))) apart before) (λ at. apart at.0)
          (slice_get-set pages page (Some segments) place None lacks)
    ]

none_by : (o : Option (List Described)) → ((xs : List Described) → o ≡ Some xs → ⊥) → o ≡ None
none_by None h = refl
none_by (Some xs) h = absurd (h xs refl)

-- where another has not come, there is no whole with this one
pub still_lacks : (pages : Pages) (page : ℕ) (segments : List Described) → (OthersThere pages page → ⊥) → whole_of (set pages page (Some segments)) ≡ None
still_lacks pages page segments h =
    none_by (whole_of (set pages page (Some segments))) (λ xs whole. h (λ place within apart lacks.
    none-some xs (sym (whole_lacks (set pages page (Some segments)) place (get_set_apart pages page place (Some segments) apart ∙ lacks)) ∙ whole)))

few_after : (s : List Described) (rest : Option (List Described)) (set : List Described) (n : ℕ) → length s ≤ max_page → with_front s rest ≡ Some set
    → ((r : List Described) → rest ≡ Some r → length r ≤ n * max_page) → length set ≤ suc n * max_page
few_after s None set n here whole next = absurd (none-some set whole)
few_after s (Some r) set n here whole next =
    let e = ap length (same_Some (s ++ r) set whole) in
    omega (arith, here, next r refl, length-append s r, e, suc-mul n max_page)

-- the first pages have no more segments than as many full ones
pub whole_few : (pages : Pages) (n : ℕ) (set : List Described) → ArePages pages → whole_of (take n pages) ≡ Some set → length set ≤ length pages * max_page
whole_few [] zero set are whole = let e = ap length (same_Some [] set whole) in omega (arith, e)
whole_few [] (suc n) set are whole = let e = ap length (same_Some [] set whole) in omega (arith, e)
whole_few (p ∷ pages) zero set are whole = let e = ap length (same_Some [] set whole) in omega (arith, e)
whole_few (None ∷ pages) (suc n) set are whole = absurd (none-some set whole)
whole_few (Some s ∷ pages) (suc n) set are whole =
    few_after s (whole_of (take n pages)) set (length pages) (are 0 s refl).1 whole
    (λ r e. whole_few pages n r (λ page segments is. are (suc page) segments is) e)
