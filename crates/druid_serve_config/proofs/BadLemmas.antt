-- What is wrong with lists of servers and of queries.
use Rattle.std.proofs.Common.{◌≡◌, ℕ, Bool, zero, suc, ◌+◌, ◌<◌, List, [], ◌∷◌, length, drop, get_or, slice_index_or, Option, Some, is_some, true, false, sym, ap, ◌∙◌, arith}
use Rattle.std.specs.List.{list_all, list_any}
use Rattle.std.specs.Str.{bytes_eq}
use Rattle.serde_json.specs.Data.{Data}
use Rattle.serde_json.specs.Find.{get_item}
use Rattle.serde_json.specs.View.{view, items_view}
use Rattle.serde_json.specs.declared.value.Value.{Value}
use Rattle.druid_base.proofs.EachLemmas.{all_read, each_of_length}
use Rattle.druid_serve_config.specs.BadFields.{HasNameTwice, HasOtherCount}
use Rattle.druid_serve_config.specs.Configs.{node_at, broker_at, are_few}
use Rattle.druid_serve_config.specs.Borrowed.{names_in}
use Rattle.druid_serve_config.proofs.FormLemmas.{names_back}

-- the value at a place is the item there
pub item_there : (vs : List Value) (i : ℕ) (v : Value) → i < length vs → v ≡ get_or vs i v → get_item i (items_view vs) ≡ Some (view v)
item_there [] i v below is = absurd (omega (arith, below))
item_there (w ∷ vs) zero v below is = ap (λ x. Some (view x)) (sym is)
item_there (w ∷ vs) (suc i) v below is = item_there vs i v (omega (arith, below)) is

counted : {A : Type 0} (f : Data → Option A) (vs : List Value) → list_all (λ v. is_some (f (view v))) vs ≡ true → are_few (length vs) ≡ false → HasOtherCount f (items_view vs)
counted f vs all many = let read = all_read f vs all in (read.0, read.1, ap are_few (each_of_length f vs read.0 read.1) ∙ many)

pub nodes_counted : (network : Bool) (vs : List Value) → list_all (λ v. is_some (node_at network (view v))) vs ≡ true → are_few (length vs) ≡ false → HasOtherCount (node_at network) (items_view vs)
nodes_counted network vs all many = counted (node_at network) vs all many

pub brokers_other : (network : Bool) (vs : List Value) → list_all (λ v. is_some (broker_at network (view v))) vs ≡ true → are_few (length vs) ≡ false → HasOtherCount (broker_at network) (items_view vs)
brokers_other network vs all many = counted (broker_at network) vs all many

pub name_twice : (network : Bool) (vs : List Value) (place : ℕ) → list_all (λ v. is_some (node_at network (view v))) vs ≡ true
    → list_any (bytes_eq (slice_index_or (names_in vs) place [])) (drop (place + 1) (names_in vs)) ≡ true → HasNameTwice network (items_view vs) place
name_twice network vs place all any =
    let read = all_read (node_at network) vs all in
    (read.0, read.1, ap (λ names. list_any (bytes_eq (slice_index_or names place [])) (drop (place + 1) names)) (sym (names_back network vs read.0 read.1)) ∙ any)
