-- Pages that are there, and pages that are not.
use Rattle.std.proofs.Common.{◌≡◌, ◌⊎◌, ◌<◌, ◌≤◌, ℕ, zero, suc, List, [], ◌∷◌, length, replicate, set, Option, Some, None, refl, sym, ap, ◌∙◌, subst, ⊎_elim, arith}
use Rattle.std.specs.List.{slice_get}
use Rattle.std.proofs.lemmas.Option.{same_Some, none-some}
use Rattle.druid_base.proofs.ListLemmas.{slice_get-set}
use Rattle.druid_segment_descriptor.specs.Described.{Described}
use Rattle.druid_segment_descriptor.specs.Reply.{max_page, AreSorted}
use Rattle.druid_sync_pages.specs.Assembly.{ArePages}

none_in : (n page : ℕ) (segments : List Described) → slice_get (replicate n None) page ≡ Some (Some segments) → ⊥
none_in zero page segments is = none-some (Some segments) is
none_in (suc n) zero segments is = none-some segments (same_Some None (Some segments) is)
none_in (suc n) (suc page) segments is = none_in n page segments is

-- of none, no page is there
pub none_there : (pages : List (Option (List Described))) (n page : ℕ) (segments : List Described) → pages ≡ replicate n None → slice_get pages page ≡ Some (Some segments) → ⊥
none_there pages n page segments none is = none_in n page segments (sym (ap (λ ps. slice_get ps page) none) ∙ is)

pub get_set : {X : Type 0} (xs : List X) (j : ℕ) (v : X) → j < length xs → slice_get (set xs j v) j ≡ Some v
get_set [] j v within = absurd (omega arith)
get_set (x ∷ xs) zero v within = refl
get_set (x ∷ xs) (suc j) v within = get_set xs j v (omega (arith, within))

pub get_set_apart : {X : Type 0} (xs : List X) (j i : ℕ) (v : X) → (i ≡ j → ⊥) → slice_get (set xs j v) i ≡ slice_get xs i
get_set_apart [] j i v apart = refl
get_set_apart (x ∷ xs) zero zero v apart = absurd (apart refl)
get_set_apart (x ∷ xs) zero (suc i) v apart = refl
get_set_apart (x ∷ xs) (suc j) zero v apart = refl
get_set_apart (x ∷ xs) (suc j) (suc i) v apart = get_set_apart xs j i v (λ e. apart (ap suc e))

-- a page more
pub are_pages_with : (pages : List (Option (List Described))) (page : ℕ) (segments : List Described) → ArePages pages
    → (1 ≤ length segments) × (length segments ≤ max_page) × AreSorted segments → ArePages (set pages page (Some segments))
are_pages_with pages page segments each new k found is =
    ⊎_elim (λ before. each k found before) (λ here. subst (λ s. (1 ≤ length s) × (length s ≤ max_page) × AreSorted s) (same_Some segments found here.1) new)
    (slice_get-set pages page (Some segments) k (Some found) is)
