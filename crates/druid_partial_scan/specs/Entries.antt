-- Groups as a map keeps them. Only proofs and private functions use this: what it means is in Groups.
use Rattle.std.specs.Prelude.{ℤ, List, map, Option, Vec}
use Rattle.std.specs.Global.{Global}
use Rattle.druid_partial.specs.Groups.{Key, Group}

-- the groups of a map's entries
abbrev pub group_of_entry : Key × Vec (Option ℤ) Global → Group
group_of_entry e = record { key = e.0; numbers = e.1.items }

abbrev pub groups_of : List (Key × Vec (Option ℤ) Global) → List Group
groups_of entries = map group_of_entry entries
