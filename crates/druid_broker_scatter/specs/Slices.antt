-- What a round wants of each node, by the nodes: only proofs use this.
use Rattle.std.specs.Prelude.{◌≡◌, ◌<◌, ℕ, List, [], Vec, Some, length, option_map, unwrap_or}
use Rattle.std.specs.Global.{Global}
use Rattle.std.specs.BTreeMap as tree
use Rattle.std.specs.BTreeMap.{BTreeMap}
use Rattle.std.specs.Ordering.{nat_cmp}
use Rattle.druid_query.specs.Asked.{Asked}

abbrev pub Slices : Type 0
Slices = BTreeMap ℕ (Vec Asked Global)

-- the pieces of a node
abbrev pub slices_of : Slices → ℕ → List Asked
slices_of slices node = unwrap_or (option_map (λ v. v.items) (tree.get nat_cmp slices node)) []

-- each node that has an entry has a piece
abbrev pub NoneEmpty : Slices → Type 0
NoneEmpty slices = (node : ℕ) (v : Vec Asked Global) → tree.get nat_cmp slices node ≡ Some v → 0 < length v.items
