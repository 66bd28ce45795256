-- A set with what goes out of it and what comes into it: only proofs use this.
use Rattle.std.specs.Prelude.{◌≡◌, ℕ, ◌-◌, ◌<◌, ◌++◌, List, length, take, drop, slice_index, slice_index_or, Contains}
use Rattle.druid_segment_id.specs.Identifier.{Identifier, identifier_text}
use Rattle.druid_segment_descriptor.specs.Described.{Described}
use Rattle.druid_segment_descriptor.specs.declared.change.Change.{Change}
use Rattle.druid_segment_descriptor.specs.declared.change.Change.TheVariants.{Load}

-- the part up to `to` comes before the one up to `middle`
abbrev pub exchanged : List Described → ℕ → ℕ → ℕ → List Described
exchanged xs from middle to =
    take from xs ++ ((drop (middle - from) (take (to - from) (drop from xs)) ++ take (middle - from) (take (to - from) (drop from xs)))
    ++ drop (to - from) (drop from xs))

-- no segment is of the identifier
abbrev pub NoneIs : List Described → Identifier → Type 0
NoneIs segments id = (d : Described) → Contains segments d → identifier_text d.id ≡ identifier_text id → ⊥

-- a change at one of the places loads the segment
abbrev pub IsLoaded : List Change → List ℕ → Described → Type 0
IsLoaded cs places x = (k : ℕ) × (k < length places) × ((c : Change) → slice_index_or cs (slice_index places k) c ≡ Load x)
