-- The node lists of brokers that stand.
use Rattle.std.specs.Prelude.{◌≡◌, ⊤, ℕ, List, All, Option, None, Some}
use Rattle.druid_inventory.specs.Entry.{Entry}
use Rattle.druid_inventory.specs.Join.{names_of}

-- all brokers that stand are of one list of nodes
abbrev pub HaveOneList : Option (List (List Entry)) → Type 0
HaveOneList None = ⊤
HaveOneList (Some brokers) = (names : List (List ℕ)) × All (λ inventory. names_of inventory ≡ names) brokers
