-- Values are compared by their bytes.
use Rattle.std.proofs.Common.{◌≡◌, ◌∙◌, ℕ, List, [], ◌∷◌, Option, Some, None, refl, ap, sym, subst}
use Rattle.std.specs.List.Sorted.{IsStrictlySortedBy}
use Rattle.std.proofs.lemmas.List.Elements.{All-nil}
use Rattle.std.specs.declared.cmp.Ordering.TheVariants.{Equal}
use Rattle.druid_query.specs.declared.aggregator.AggregatorKind.{AggregatorKind}
use Rattle.druid_base.proofs.MemberLemmas.{Contains-nil}
use Rattle.druid_partial.specs.Partials.{IsPartial, HasNumbers}
use Rattle.std.specs.Prelude.{String, string_bytes, string_cmp}
use Rattle.std.specs.Global.{Global}
use Rattle.std.specs.declared.cmp.Ordering.{Ordering}
use Rattle.std.specs.Ordering.{nat_cmp, ordering_then}
use Rattle.std.specs.Option.{option_cmp}
use Rattle.std.specs.Cmp.Lexicographic.{slice_cmp}
use Rattle.druid_filter.specs.Values.{nullable_texts_of}
use Rattle.druid_partial.specs.Groups.{Group, IsResult, value_cmp, key_cmp}

pub values_by_bytes : (xs ys : List (Option (String Global))) → slice_cmp (option_cmp string_cmp) xs ys ≡ slice_cmp value_cmp (nullable_texts_of xs) (nullable_texts_of ys)
values_by_bytes [] [] = refl
values_by_bytes [] (y ∷ ys) = refl
values_by_bytes (x ∷ xs) [] = refl
values_by_bytes (None ∷ xs) (None ∷ ys) = values_by_bytes xs ys
values_by_bytes (None ∷ xs) (Some y ∷ ys) = refl
values_by_bytes (Some x ∷ xs) (None ∷ ys) = refl
values_by_bytes (Some x ∷ xs) (Some y ∷ ys) =
    ap (ordering_then (slice_cmp nat_cmp (string_bytes x) (string_bytes y))) (values_by_bytes xs ys)

-- of one bucket, keys are compared by their values
pub key_tied : (s t : ℕ) (xs ys : List (Option (String Global))) (p o : Ordering) → p ≡ nat_cmp s t → p ≡ Equal → o ≡ slice_cmp (option_cmp string_cmp) xs ys → o ≡ key_cmp (record { bucket = s; values = nullable_texts_of xs }) (record { bucket = t; values = nullable_texts_of ys })
key_tied s t xs ys p o buckets tied e =
    e ∙ values_by_bytes xs ys ∙ ap (λ q. ordering_then q (slice_cmp value_cmp (nullable_texts_of xs) (nullable_texts_of ys))) (sym tied ∙ buckets)

-- no groups are in order
pub no_groups : (kinds : List AggregatorKind) (groups : List Group) → groups ≡ [] → IsPartial (record { kinds = kinds; groups = groups })
unfolding IsStrictlySortedBy
no_groups kinds groups e = let P : List Group → Type 0 = λ gs. IsPartial (record { kinds = kinds; groups = gs }) in
    subst P (sym e) (record { ordered = tt; numbers = All-nil (HasNumbers kinds) })

-- and are the result over no rows
pub no_rows : (kinds : List AggregatorKind) (groups : List Group) → groups ≡ [] → IsResult kinds [] groups
unfolding IsStrictlySortedBy
no_rows kinds groups e = let P : List Group → Type 0 = λ gs. IsResult kinds [] gs in
    subst P (sym e) (record { ordered = tt; each = λ g c. absurd (Contains-nil g c); whole = λ g c. absurd (Contains-nil g c) })
