-- Names in order, each once.
use Rattle.std.proofs.Common.{◌≡◌, ℕ, ◌+◌, Bool, true, false, cond, ◌↔◌, All, List, [], ◌∷◌, ◌++◌, get_or, map, refl, sym, ◌∙◌, ap, subst, arith}
use Rattle.std.proofs.lemmas.List.{get_or-map, length-map, map-append}
use Rattle.std.proofs.lemmas.List.Elements.{All-push, All-weaker, All-contains, All-contains_itself}
use Rattle.std.proofs.lemmas.List.Filters.{dedup_is}
use Rattle.std.proofs.lemmas.List.Kept.{Contains-dedup, Contains-from_dedup, IsStrictlySortedBy-dedup}
use Rattle.std.proofs.lemmas.List.Sorted.{Contains-permutation, IsPermutation-sym, IsPermutation-map}
use Rattle.std.proofs.lemmas.Slice.Eq.{bytes_eq-Decides}
use Rattle.std.specs.Cmp.Lexicographic.{slice_cmp, nat_list_cmp_total, nat_list_eq_equiv, texts_ties}
use Rattle.std.specs.List.{Contains, dedup, dedup_from}
use Rattle.std.specs.List.Retain.{IsFiltered, DiffersFromLast}
use Rattle.std.specs.List.Sorted.{IsPermutation, IsSorted}
use Rattle.std.specs.Ordering.{nat_cmp, is_lt}
use Rattle.std.specs.Str.{bytes_eq}
use Rattle.std.specs.declared.cmp.Ordering.{Ordering}
use Rattle.std.specs.String.{string_bytes, string_cmp, string_eq}
use Rattle.std.specs.declared.alloc.Global.{Global}
use Rattle.std.specs.declared.string.String.{String}
use Rattle.druid_folder.specs.Folder.{Content, AreInOrder, AreNames, names_of}
use Rattle.druid_folder.specs.FileName.{IsFileName}

module _ {X Y : Type 0} (f : X → Y) where
  map-cond : (b : Bool) (xs ys : List X) → map f (cond b xs ys) ≡ cond b (map f xs) (map f ys)
  map-cond true xs ys = refl
  map-cond false xs ys = refl

  map-dedup_from : (E : Y → Y → Bool) (k : X) (xs : List X) → map f (dedup_from (λ x y. E (f x) (f y)) k xs) ≡ dedup_from E (f k) (map f xs)
  map-dedup_from E k [] = refl
  map-dedup_from E k (x ∷ xs) =
      map-cond (E (f x) (f k)) (dedup_from (λ x y. E (f x) (f y)) k xs) (k ∷ dedup_from (λ x y. E (f x) (f y)) x xs)
      ∙ ap (λ l. cond (E (f x) (f k)) l (f k ∷ map f (dedup_from (λ x y. E (f x) (f y)) x xs))) (map-dedup_from E k xs)
      ∙ ap (λ l. cond (E (f x) (f k)) (dedup_from E (f k) (map f xs)) (f k ∷ l)) (map-dedup_from E x xs)

  pub map-dedup : (E : Y → Y → Bool) (xs : List X) → map f (dedup (λ x y. E (f x) (f y)) xs) ≡ dedup E (map f xs)
  map-dedup E [] = refl
  map-dedup E (x ∷ xs) = map-dedup_from E x xs

  pub sorted-map : (R : Y → Y → Ordering) (xs : List X) → IsSorted (λ x y. R (f x) (f y)) xs → IsSorted R (map f xs)
  sorted-map R [] sorted k d low high = absurd (omega arith)
  sorted-map R (x ∷ xs) sorted k d low high =
      let long = length-map (x ∷ xs) f in
      let here = get_or-map f (x ∷ xs) k x d (omega (arith, long)) in
      let next = get_or-map f (x ∷ xs) (k + 1) x d (omega (arith, long)) in
      ap (λ y. is_lt (R y (get_or (map f (x ∷ xs)) k d))) next ∙ ap (λ y. is_lt (R (f (get_or (x ∷ xs) (k + 1) x)) y)) here
      ∙ sorted k x low (omega (arith, long))

bytes_same : (x y : List ℕ) → bytes_eq x y ≡ true → x ≡ y
bytes_same x y = (bytes_eq-Decides x y).0

module _ (old sorted new : List (String Global)) (moved : IsPermutation old sorted) (in_order : IsSorted string_cmp sorted) (filtered : IsFiltered (DiffersFromLast string_eq) [] sorted new) where
  names_are : names_of new ≡ dedup bytes_eq (names_of sorted)
  names_are = ap names_of (dedup_is string_eq sorted new filtered) ∙ map-dedup string_bytes bytes_eq sorted

  pub put_in_order_is : AreInOrder (names_of new)
  put_in_order_is = subst AreInOrder (sym names_are)
      (IsStrictlySortedBy-dedup nat_list_cmp_total texts_ties (names_of sorted) (sorted-map string_bytes (slice_cmp nat_cmp) sorted in_order))

  names_moved : IsPermutation (names_of old) (names_of sorted)
  names_moved = IsPermutation-map string_bytes old sorted moved

  pub put_in_order_from : (name : List ℕ) → Contains (names_of new) name → Contains (names_of old) name
  put_in_order_from name in_new =
      Contains-permutation (names_of sorted) (names_of old) name (IsPermutation-sym (names_of old) (names_of sorted) names_moved)
      (Contains-from_dedup bytes_eq (names_of sorted) name (subst (λ l. Contains l name) names_are in_new))

  pub put_in_order_to : (name : List ℕ) → Contains (names_of old) name → Contains (names_of new) name
  put_in_order_to name in_old = subst (λ l. Contains l name) (sym names_are)
      (Contains-dedup nat_list_eq_equiv bytes_same (names_of sorted) name (Contains-permutation (names_of old) (names_of sorted) name names_moved in_old))

-- names of the same files are left
module _ (old new : List (List ℕ)) (same : (name : List ℕ) → Contains new name ↔ Contains old name) where
  pub valid_names : All IsFileName old → All IsFileName new
  valid_names valid = All-weaker (Contains new) IsFileName (λ name in_new. All-contains IsFileName old name valid ((same name).0 in_new)) new (All-contains_itself new)

  pub same_names : (files : Content) → AreNames files old → AreNames files new
  same_names files are = record {
    valid = valid_names are.valid;
    each = λ name. (λ in_new. (are.each name).0 ((same name).0 in_new), λ is. (same name).1 ((are.each name).1 is));
  }

-- one more name
pub valid_push : (names new : List (String Global)) (name : String Global) → All IsFileName (names_of names) → IsFileName (string_bytes name)
    → new ≡ names ++ name ∷ [] → All IsFileName (names_of new)
valid_push names new name valid is_name is = subst (All IsFileName) (sym (ap names_of is ∙ map-append string_bytes names (name ∷ [])))
    (All-push IsFileName (names_of names) (string_bytes name) valid is_name)
