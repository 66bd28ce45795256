-- Numbers that aggregators tell, joined: what it means is in Groups.
use Rattle.std.specs.Prelude.{◌≡◌, ◌+◌, ◌<◌, ℤ, ◌+ℤ◌, List, [], ◌∷◌, length, Option, Some, None}
use Rattle.std.specs.Int.{int_wrap, int_min, int_max, w64}
use Rattle.std.specs.declared.cmp.Ordering.{Ordering}
use Rattle.std.specs.declared.cmp.Ordering.TheVariants.{Less, Greater}
use Rattle.std.specs.Ordering.{match_ordering}
use Rattle.druid_query.specs.declared.aggregator.AggregatorKind.{AggregatorKind}
use Rattle.druid_query.specs.declared.aggregator.AggregatorKind.TheVariants.{Count, LongSum, LongMin, LongMax}
use Rattle.druid_partial.specs.Groups.{Group, key_cmp}

-- what is reported of one number
abbrev pub alone : AggregatorKind → ℤ → ℤ
alone Count x = int_wrap w64 x
alone LongSum x = int_wrap w64 x
alone LongMin x = x
alone LongMax x = x

-- what is reported of the numbers after two counted ones
abbrev pub join_two : AggregatorKind → ℤ → ℤ → ℤ
join_two Count x y = int_wrap w64 (x +ℤ y)
join_two LongSum x y = int_wrap w64 (x +ℤ y)
join_two LongMin x y = int_min x y
join_two LongMax x y = int_max x y

-- the same where there may be none
abbrev pub joined : AggregatorKind → Option ℤ → Option ℤ → Option ℤ
joined kind None y = y
joined kind (Some x) None = Some x
joined kind (Some x) (Some y) = Some (join_two kind x y)

-- the numbers of two groups of one key, place by place, as far as there are two of a kind
abbrev pub join_numbers : List AggregatorKind → List (Option ℤ) → List (Option ℤ) → List (Option ℤ)
join_numbers [] xs ys = xs
join_numbers (kind ∷ kinds) [] ys = []
join_numbers (kind ∷ kinds) (x ∷ xs) [] = x ∷ xs
join_numbers (kind ∷ kinds) (x ∷ xs) (y ∷ ys) = joined kind x y ∷ join_numbers kinds xs ys

-- two groups of one key as one
abbrev pub join_groups : List AggregatorKind → Group → Group → Group
join_groups kinds a b = record { key = a.key; numbers = join_numbers kinds a.numbers b.numbers }

-- a group, put among those of the second list; `rest` merges what follows it in its own list
abbrev pub put : List AggregatorKind → Group → (List Group → List Group) → List Group → List Group
put kinds x rest [] = x ∷ rest []
put kinds x rest (y ∷ ys) =
    match_ordering (key_cmp x.key y.key) (x ∷ rest (y ∷ ys)) (join_groups kinds x y ∷ rest ys) (y ∷ put kinds x rest ys)

-- two lists in order, merged
abbrev pub merged : List AggregatorKind → List Group → List Group → List Group
merged kinds [] ys = ys
merged kinds (x ∷ xs) ys = put kinds x (merged kinds xs) ys

-- which of two lists in order has the next group: the first (`Less`), the second (`Greater`; also where both are empty), or
-- both one of one key
abbrev pub turn : List Group → List Group → Ordering
turn [] ys = Greater
turn (x ∷ xs) [] = Less
turn (x ∷ xs) (y ∷ ys) = key_cmp x.key y.key

-- the first of them, put before the rest of the merge
abbrev pub Takes : List AggregatorKind → List Group → List Group → Option Group → List Group → List Group → Type 0
Takes kinds xs ys None more_xs more_ys = merged kinds xs ys ≡ []
Takes kinds xs ys (Some g) more_xs more_ys =
    (merged kinds xs ys ≡ g ∷ merged kinds more_xs more_ys) × (length more_xs + length more_ys < length xs + length ys)
