-- A row's group joined to the entries of a map.
use Rattle.std.proofs.Common.{◌≡◌, ◌∙◌, ℤ, List, [], ◌∷◌, cond, Option, Some, None, refl, sym, ap, Vec, Global}
use Rattle.std.specs.List.{AllByRecursion}
use Rattle.std.specs.List.Sorted.{IsStrictlySortedBy}
use Rattle.std.specs.Map.{keys_of, lookup, set_value}
use Rattle.std.specs.BTreeMap.{insert_entry, is_at}
use Rattle.std.specs.Ordering.{is_eq, match_ordering}
use Rattle.std.specs.declared.cmp.Ordering.{Ordering}
use Rattle.std.specs.declared.cmp.Ordering.TheVariants.{Less, Equal, Greater}
use Rattle.std.proofs.lemmas.Map.Keys.{sorted_head, sorted_tail}
use Rattle.druid_query.specs.declared.aggregator.AggregatorKind.{AggregatorKind}
use Rattle.druid_partial.specs.Groups.{Key, Group, key_cmp}
use Rattle.druid_partial.specs.Joined.{join_numbers, join_groups, put, merged}
use Rattle.druid_partial_scan.specs.Entries.{group_of_entry, groups_of}
use Rattle.druid_partial.specs.Orders.{key_cmp-total}
use Rattle.druid_partial.proofs.GroupLemmas.{key_same}

Entry : Type 0
Entry = Key × Vec (Option ℤ) Global

-- a new key
pub inserted : (kinds : List AggregatorKind) (es : List (Key × Vec (Option ℤ) Global)) (key : Key) (v : Vec (Option ℤ) Global) → lookup (is_at (key_cmp key)) es ≡ None → groups_of (insert_entry key_cmp es key v) ≡ merged kinds (record { key = key; numbers = v.items } ∷ []) (groups_of es)
inserted kinds [] key v none = refl
inserted kinds (e ∷ es) key v none = by_order (key_cmp key e.0) none (inserted kinds es key v)
  where
    by_order : (o : Ordering) → cond (is_eq o) (Some e.1) (lookup (is_at (key_cmp key)) es) ≡ None
        → (lookup (is_at (key_cmp key)) es ≡ None → groups_of (insert_entry key_cmp es key v) ≡ merged kinds (record { key = key; numbers = v.items } ∷ []) (groups_of es))
        → groups_of (match_ordering o ((key, v) ∷ e ∷ es) ((e.0, v) ∷ es) (e ∷ insert_entry key_cmp es key v))
        ≡ match_ordering o (record { key = key; numbers = v.items } ∷ merged kinds [] (group_of_entry e ∷ groups_of es)) (join_groups kinds (record { key = key; numbers = v.items }) (group_of_entry e) ∷ merged kinds [] (groups_of es)) (group_of_entry e ∷ put kinds (record { key = key; numbers = v.items }) (merged kinds []) (groups_of es))
    by_order Less none later = refl
    by_order Equal none later = absurd (cc)
    by_order Greater none later = ap (λ l. group_of_entry e ∷ l) (later none)

-- a key after another is not at those before
gone : (key : Key) (es : List (Key × Vec (Option ℤ) Global)) → AllByRecursion (λ k. key_cmp key k ≡ Less) (keys_of es) → lookup (is_at (key_cmp key)) es ≡ None
gone key [] below = refl
gone key (e ∷ es) below = ap (λ o. cond (is_eq o) (Some e.1) (lookup (is_at (key_cmp key)) es)) below.0 ∙ gone key es below.1

less_all : (key : Key) (e : Key × Vec (Option ℤ) Global) (es : List (Key × Vec (Option ℤ) Global)) → key_cmp key e.0 ≡ Less → AllByRecursion (λ k. key_cmp e.0 k ≡ Less) (keys_of es) → AllByRecursion (λ k. key_cmp key k ≡ Less) (keys_of es)
less_all key e [] l below = tt
less_all key e (f ∷ es) l below = (key_cmp-total.trans key e.0 f.0 l below.0, less_all key e es l below.1)

group_is : (k : Key) (a b : Key) (n : List (Option ℤ)) → a ≡ b → (let g : Group = record { key = a; numbers = n } in g) ≡ record { key = b; numbers = n }
group_is k a b n e i = record { key = e i; numbers = n }

-- a key that is there
pub written : (kinds : List AggregatorKind) (es : List (Key × Vec (Option ℤ) Global)) (key : Key) (numbers : List (Option ℤ)) (old new : Vec (Option ℤ) Global) → IsStrictlySortedBy key_cmp (keys_of es) → lookup (is_at (key_cmp key)) es ≡ Some old → new.items ≡ join_numbers kinds numbers old.items → groups_of (set_value (is_at (key_cmp key)) es new) ≡ merged kinds (record { key = key; numbers = numbers } ∷ []) (groups_of es)
written kinds [] key numbers old new sorted there joined = absurd (cc)
written kinds (e ∷ es) key numbers old new sorted there joined =
    by_order (key_cmp key e.0) refl there (written kinds es key numbers old new (sorted_tail key_cmp e.0 (keys_of es) sorted))
  where
    by_order : (o : Ordering) → key_cmp key e.0 ≡ o → cond (is_eq o) (Some e.1) (lookup (is_at (key_cmp key)) es) ≡ Some old
        → (lookup (is_at (key_cmp key)) es ≡ Some old → new.items ≡ join_numbers kinds numbers old.items → groups_of (set_value (is_at (key_cmp key)) es new) ≡ merged kinds (record { key = key; numbers = numbers } ∷ []) (groups_of es))
        → groups_of (cond (is_eq o) ((e.0, new) ∷ es) (e ∷ set_value (is_at (key_cmp key)) es new))
        ≡ match_ordering o (record { key = key; numbers = numbers } ∷ merged kinds [] (group_of_entry e ∷ groups_of es)) (join_groups kinds (record { key = key; numbers = numbers }) (group_of_entry e) ∷ merged kinds [] (groups_of es)) (group_of_entry e ∷ put kinds (record { key = key; numbers = numbers }) (merged kinds []) (groups_of es))
    by_order Less is t later =
        let none = gone key es (less_all key e es is (sorted_head key_cmp e.0 (keys_of es) sorted)) in
        let clash : Some old ≡ None = sym t ∙ none in absurd (cc)
    by_order Equal is t later =
        let same : e.1 ≡ old = cc in
        let numbers_are : new.items ≡ join_numbers kinds numbers e.1.items = joined ∙ ap (λ v. join_numbers kinds numbers v.items) (sym same) in
        let keys : e.0 ≡ key = sym (key_same key e.0 is) in
        let head : group_of_entry (e.0, new) ≡ join_groups kinds (record { key = key; numbers = numbers }) (group_of_entry e) =
        (λ i. record { key = keys i; numbers = numbers_are i }) in
        ap (λ g. g ∷ groups_of es) head
    by_order Greater is t later = ap (λ l. group_of_entry e ∷ l) (later t joined)
